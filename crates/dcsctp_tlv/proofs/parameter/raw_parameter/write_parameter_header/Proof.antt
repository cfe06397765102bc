-- `write_parameter_header` writes four bytes and lends the part after them: a walk of its MIR by
-- hand. Assumes `Logic`.
use Rattle.dcsctp_tlv.proofs.{Lending.{refl, ap, ℕ, ◌+◌, ◌/◌, ◌%◌, ◌^◌, ◌<◌, ◌≤◌, arith, List, [], ◌∷◌, length, length-set, ftrue, flft, named, w16, w64, vint, tables, ‵, ◌⊛◌, given, ◌$◌, ◌∵◌, !, qed, move, keep, drop, learn, split, split3, join, fsplit, fjoin, suffices, frame, done, whole, sub, agg, stop, fld, addr, lit, of_opd, bin, un, assigns, and_then, no_more, returns, enter, alloc_all, pass_all, free_all, look_at, get, get_in, through, is, sets, u8, u16, usize, yes, no, uint_vals, uint_Tells, owns, opens_slice, MutSlice, Room, slice_val, mut_slice_vals, mut_slice_Tells, nothing, says, Stays, stay_dropped, walk_of, ends_at, Goes-dropped, Goes-spent_slice, plain, Width, UInt, proved, store_byte, value_part, lends_value}, parameter.raw_parameter.write_parameter_header.Statement.{statement}}
use Rattle.dcsctp_tlv.specs.contracts.parameter.raw_parameter.write_parameter_header as F
use Rattle.dcsctp_tlv.proofs.parameter.raw_parameter.write_parameter_header.Code as code

abbrev stayed : Stays F.ended.signature.params F.ended.kept
stayed = (stay_dropped _ yes, (stay_dropped _ yes, (stay_dropped _ no, tt)))

pub write_parameter_header_spec : {M : Type 1} → statement M
write_parameter_header_spec 𝓤 𝓛 𝓜 𝓡 wired =
    let c = F.clauses 𝓛 𝓜.mem 𝓡.returns in
    let 𝓣 = tables 𝓤 𝓛.H 𝓜 𝓡 𝓡.env in
    let goes = λ (w : Width). Goes-dropped 𝓛 1 (plain (λ _. UInt w)) yes (λ κs x f. refl) in
    proved 𝓛 F.ended stayed c 𝓜 𝓡
    (goes w16, (goes w64, (Goes-spent_slice 𝓛 1 (0 ∷ []) tt (plain (λ _. u8)), tt)))
    F.Key.name code.function (code.unfolded 𝓤 𝓛.H 𝓜 𝓡 wired)
    (λ κs. (uint_vals w16, (uint_vals w64, (mut_slice_vals, tt))))
    (λ κs. (uint_Tells w16, (uint_Tells w64, (mut_slice_Tells (named 0) κs.0 u8, tt))))
    (λ κs qs bounds a g are.
    let κ = κs.0 in let q = qs.0 in let t = a.0 in let n = a.1.0 in let out = a.1.1.0 in
    let b = out.ref_ptr.0 in let o = out.ref_ptr.1 in let γ = out.ghost_name in
    let xs : List ℕ = out.now in
    let y : (walk_of 𝓛 F.ended stayed c).Ghost =
    ((κs, qs, bounds, a, (vint w16 t ∷ [], (vint w64 n ∷ [], (mut_slice_vals out, tt)))), tt) in
    let t_fits : t < 2 ^ 16 = are.0.1 in
    let n_fits : n < 2 ^ 64 = are.1.0.1 in
    let room : Room u8 (length xs) = are.1.1.0.0.1 in
    let length_fits : length xs < 2 ^ 64 = room.0 in
    qed 𝓛 (((‵ (flft κ q) ⊛ ‵ ftrue) ⊛
    ‵ (owns (u16 ∷ usize ∷ MutSlice (named 0) κ u8 ∷ []) a y.0.4)) ∷
    (given (4 + n < 2 ^ 16) (‵ ftrue) ⊛ given (4 + n ≤ length xs) (‵ ftrue)) ∷ []) ∵
    move ! (1 ∷ []) $ split ! $ learn ! (λ small. drop ! $ learn ! (λ le. drop ! $
    enter ! _ _ _ _ _ $
    alloc_all ! (λ l. pass_all ! refl (
      (tt, record { fits = t_fits }),
      (
        (tt, record { fits = n_fits }),
        ((tt, (tt, (record { fits = length_fits }, tt))), tt),
      ),
    ) $
    split ! $ split ! $ move ! (2 ∷ []) $ fsplit ! $ drop ! $ fsplit ! $ drop ! $
    fsplit ! $ fsplit ! $ drop ! $ fsplit ! $ move ! (0 ∷ 1 ∷ 3 ∷ []) $
    -- [what γ is seen at; the borrow; the token of κ; ..]
    opens_slice ! tt u8 xs b o $
    -- [the row; the open borrow; ..]. From here, a step for each statement of the MIR.
    sets ! (bin ! (lit ! tt) (get ! refl) (record { fits = omega arith })) refl
    (tt, record { fits = omega arith }) $
    sets ! (bin ! (get ! refl) (lit ! tt) (omega arith)) refl (tt, record { fits = omega arith }) $
    sets ! (un ! (get ! refl) (record { fits = omega arith })) refl
    (tt, record { fits = omega arith }) $
    sets ! (bin ! (get_in ! (fld ! refl (stop !)) (sub ! 0 refl (whole !))) (lit ! tt) tt) refl
    (tt, tt) $
    assigns ! (of_opd ! (get ! refl)) (through ! refl (stop !))
    (store_byte ! b o _ 0 (omega arith) (omega arith)) $
    sets ! (bin ! (get ! refl) (lit ! tt) (omega arith)) refl (tt, record { fits = omega arith }) $
    sets ! (un ! (get ! refl) (record { fits = omega arith })) refl
    (tt, record { fits = omega arith }) $
    sets ! (bin ! (get_in ! (fld ! refl (stop !)) (sub ! 0 refl (whole !))) (lit ! tt) tt) refl
    (tt, tt) $
    assigns ! (of_opd ! (get ! refl)) (through ! refl (stop !))
    (store_byte ! b o _ 1 (omega (arith, length-set {A = ℕ})) (omega arith)) $
    sets ! (bin ! (get ! refl) (lit ! tt) (omega arith)) refl (tt, record { fits = omega arith }) $
    sets ! (un ! (get ! refl) (record { fits = omega arith })) refl
    (tt, record { fits = omega arith }) $
    sets ! (bin ! (get_in ! (fld ! refl (stop !)) (sub ! 0 refl (whole !))) (lit ! tt) tt) refl
    (tt, tt) $
    assigns ! (of_opd ! (get ! refl)) (through ! refl (stop !))
    (store_byte ! b o _ 2 (omega (arith, length-set {A = ℕ})) (omega arith)) $
    sets ! (bin ! (get ! refl) (lit ! tt) (omega arith)) refl (tt, record { fits = omega arith }) $
    sets ! (un ! (get ! refl) (record { fits = omega arith })) refl
    (tt, record { fits = omega arith }) $
    sets ! (bin ! (get_in ! (fld ! refl (stop !)) (sub ! 0 refl (whole !))) (lit ! tt) tt) refl
    (tt, tt) $
    assigns ! (of_opd ! (get ! refl)) (through ! refl (stop !))
    (store_byte ! b o _ 3 (omega (arith, length-set {A = ℕ})) (omega arith)) $
    sets ! (bin ! (get_in ! (fld ! refl (stop !)) (sub ! 0 refl (whole !))) (lit ! tt) tt) refl
    (tt, tt) $
    sets ! (is ! (bin ! (get ! refl) (lit ! tt) (omega arith)) (ap (vint w64) (omega arith))) refl
    (tt, record { fits = n_fits }) $
    sets ! (addr ! (through ! refl (stop !))) refl (tt, tt) $
    sets ! (agg ! (and_then ! (get ! refl) (and_then ! (get ! refl) (no_more !)))) refl
    (tt, (tt, (record { fits = n_fits }, tt))) $
    lends_value xs (t / 256) (t % 256) n small le room 𝓛 κ q b o γ ! tt (λ δ.
    returns ! (look_at ! 0 refl) $ free_all ! refl $ keep ! (0 ∷ []) $ split3 ! $
    suffices ! _ (ends_at 𝓛 F.ended stayed c y (slice_val (b, 4 + o) n)
    (value_part xs n b o δ) (tt, (tt, (tt, tt))) (tt, (tt, (tt, tt)))) $
    nothing ! $ nothing ! $ fjoin ! $ nothing ! $ fjoin ! $ nothing ! $ fjoin ! $ join ! $
    nothing ! $ move ! (2 ∷ 0 ∷ []) $ join ! $ join ! $ frame ! $ says ! refl $ done !)))))
