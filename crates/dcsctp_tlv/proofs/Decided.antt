-- What a list of bytes means is decided, at every level whose rows have one answer.
use Rattle.std.{proofs.Common.{◌≡◌, ℕ, List, [], ◌∷◌, ◌++◌, refl, sym, ap, ◌∙◌}, specs.List.{flat_map}}
use Rattle.dcsctp_tlv.{specs.Frame.{Item, item_bytes, PaddingRule}, specs.Level.{Level}, specs.Decided.{SplitsOneWay, IsDecided}, proofs.Items.{AreBefore, items_before}, proofs.Laws.{Lawful, after, list_one, list_apart, list_same, list_some}}

items_one : (rule : PaddingRule) (is js : List Item) → flat_map item_bytes is ++ []
    ≡ flat_map item_bytes js ++ [] → AreBefore rule is [] → AreBefore rule js [] → is ≡ js
items_one rule [] [] e p q = refl
items_one rule [] (j ∷ js) e p q = absurd cc
items_one rule (i ∷ is) [] e p q = absurd cc
items_one rule (i ∷ is) (j ∷ js) e p q =
    let b = after rule i j is js [] [] e p q in
    let head : i ≡ j = b.0 in
    let tail : is ≡ js = items_one rule is js b.1 p.1 q.1 in
    cc

pub splits_one_way : (rule : PaddingRule) → SplitsOneWay rule
splits_one_way rule bytes is js p q = items_one rule is js (ap (λ (x : List ℕ). x ++ [])
    (sym p.split ∙ q.split)) (items_before rule is p.formed) (items_before rule js q.formed)

pub decided : {T : Type 0} (level : Level T) → Lawful level → IsDecided level
decided level law = record {
  row = law;
  meaning = list_one level law;
  fault = list_same level law;
  apart = list_apart level law;
  either = list_some level law;
}
