-- One of two key vectors comes first.
use Rattle.std.proofs.Common.{◌≡◌, ◌++◌, ◌⊎◌, ◌↔◌, Bool, List, Option, ℕ, IsTrue, length, inl, inr, subst, sym, arith}
use Rattle.std.proofs.lemmas.Bool.{cases_lt}
use Rattle.dcsctp_receive.specs.Auth.{IsAuthenticated}
use Rattle.dcsctp_receive.specs.SharedKey.{ComesFirst, vector_number}
use Rattle.dump_associations.specs.Authentication.{IsRightBy, IsRightUnder, vector_bytes}
use Rattle.dump_associations.specs.declared.authentication.key_vector.KeyVector.{KeyVector}
use Rattle.dump_associations.proofs.authentication.is_right_by.Goals as goal

either : (one other : List ℕ) → ComesFirst one other ⊎ ComesFirst other one
either one other =
    elim (cases_lt (vector_number one) (vector_number other)) [
      | inl less ↦ inl (inl less)
      | inr not_less ↦ elim (cases_lt (vector_number other) (vector_number one)) [
        | inl greater ↦ inr (inl greater)
        | inr not_greater ↦
            let same : vector_number one ≡ vector_number other = omega (arith, not_less, not_greater) in
            elim (cases_lt (length other) (length one)) [
              | inl shorter ↦ inr (inr (sym same, omega (arith, shorter)))
              | inr not_shorter ↦ inl (inr (same, not_shorter))
            ]
      ]
    ]

under : (result : Bool) (pair_key one other bytes : List ℕ)
    → (ComesFirst one other → IsTrue result ↔ IsAuthenticated (pair_key ++ (one ++ other)) bytes)
    → (ComesFirst other one → IsTrue result ↔ IsAuthenticated (pair_key ++ (other ++ one)) bytes)
    → IsTrue result ↔ IsRightUnder pair_key one other bytes
under result pair_key one other bytes f g = (
  λ t. record { one_first = λ h. (f h).0 t; other_first = λ h. (g h).0 t },
  λ is. elim (either one other) [
    | inl h ↦ (f h).1 (is.one_first h)
    | inr h ↦ (g h).1 (is.other_first h)
  ],
)

pub returns-in-Some : goal.returns-in-Some
returns-in-Some c =
    let result = c.is_right.result in
    let bytes = c.args.bytes.now in
    let key = c.as_bytes.ensures.bytes in
    let own = c.as_bytes-in-Some.ensures.bytes in
    let theirs = c.as_bytes-in-Some-2.ensures.bytes in
    subst (λ (o : Option KeyVector). IsTrue result ↔ IsRightBy c.args.key.now o c.args.theirs.now bytes)
    (sym c.in-Some.is)
    (subst (λ (k : List ℕ). IsTrue result ↔ IsRightUnder k (vector_bytes c.in-Some.own) (vector_bytes c.args.theirs.now) bytes) key
    (subst (λ (o : List ℕ). IsTrue result ↔ IsRightUnder c.as_bytes.result.now o (vector_bytes c.args.theirs.now) bytes) own
    (subst (λ (t : List ℕ). IsTrue result ↔ IsRightUnder c.as_bytes.result.now c.as_bytes-in-Some.result.now t bytes) theirs
    (under result c.as_bytes.result.now c.as_bytes-in-Some.result.now c.as_bytes-in-Some-2.result.now bytes
    c.is_right.ensures.one_first c.is_right.ensures.other_first))))
