-- The types of instances, each where it is first used, are one list.
use Rattle.std.proofs.Common.{◌≡◌, ℕ, zero, suc, ◌+◌, ◌<◌, ◌≤◌, List, [], ◌∷◌, ◌++◌, length, get_or, drop, drop-cons, add-one, Bor, Some, inl, inr, refl, sym, ap, subst, ◌∙◌, arith}
use Rattle.std.proofs.lemmas.List.{drop_all}
use Rattle.std.specs.Prelude.{slice_get}
use Rattle.cg_svspec.specs.Names.{Among}
use Rattle.cg_desc.specs.Top.{AreTypes, IsUsedBefore, type_uses}
use Rattle.cg_desc.specs.declared.top.InstDesc.{InstDesc}
use Rattle.cg_nodes.specs.Listed.{new_names}
use Rattle.cg_nodes.specs.Order.{Rises}
use Rattle.cg_nodes.proofs.Order.{all_among, among_all, one_rising}
use Rattle.cg_nodes.proofs.ClocksListed.{in_new, new_has, new_rise, no_use, once, one_more_use}
use Rattle.cg_nodes.proofs.ClocksUsed.{Names, bytes_of, inserted, inserted_bytes}
use Rattle.cg_topread.specs.Types.{types_of}

pub at_among : {X : Type 0} (xs : List X) (i : ℕ) (x : X) → slice_get xs i ≡ Some x → Among x xs
at_among [] i x at = cc
at_among (y ∷ ys) zero x at = let is : y ≡ x = cc in inl (sym is)
at_among (y ∷ ys) (suc i) x at = inr (at_among ys i x at)

pub among_at : {X : Type 0} (xs : List X) (x : X) → Among x xs → (i : ℕ) × (slice_get xs i ≡ Some x)
among_at [] x among = absurd among
among_at (y ∷ ys) x (inl is) = (0, ap Some (sym is))
among_at (y ∷ ys) x (inr among) = let rest = among_at ys x among in (suc rest.0, rest.1)

-- in a list that rises, each item stands in the relation to all at later places
pub rises_at : {X : Type 0} (R : X → X → Type 0) (xs : List X) → Rises R xs → (i j : ℕ) (a b : X) → slice_get xs i ≡ Some a → slice_get xs j ≡ Some b → i < j → R a b
rises_at R [] up i j a b at_i at_j lt = cc
rises_at R (x ∷ xs) up i zero a b at_i at_j lt = absurd (omega arith)
rises_at R (x ∷ xs) up zero (suc j) a b at_i at_j lt = let is : x ≡ a = cc in subst (λ y. R y b) is (all_among (R x) xs b up.0 (at_among xs j b at_j))
rises_at R (x ∷ xs) up (suc i) (suc j) a b at_i at_j lt = rises_at R xs up.1 i j a b at_i at_j (omega arith)

at_rises : {X : Type 0} (R : X → X → Type 0) (xs : List X) → ((i j : ℕ) (a b : X) → slice_get xs i ≡ Some a → slice_get xs j ≡ Some b → i < j → R a b) → Rises R xs
at_rises R [] each = tt
at_rises R (x ∷ xs) each = (
  among_all (R x) xs (λ y among. let place = among_at xs y among in each 0 (suc place.0) x y refl place.1 (omega arith)),
  at_rises R xs (λ i j a b at_i at_j lt. each (suc i) (suc j) a b at_i at_j (omega arith)),
)

pub types_listed : (insts : List InstDesc) → AreTypes insts (types_of insts)
unfolding types_of
types_listed insts = record {
  members = λ t. ((λ among. (in_new [] (type_uses insts) t among).0), (λ among. new_has [] (type_uses insts) t among refl));
  in_order = λ i j a b at_i at_j lt. rises_at (IsUsedBefore insts) (new_names [] (type_uses insts)) (new_rise [] (type_uses insts)) i j a b at_i at_j lt;
}

pub types_one : (insts : List InstDesc) (types : List (List ℕ)) → AreTypes insts types → types ≡ types_of insts
unfolding types_of
types_one insts types are =
    one_rising (IsUsedBefore insts) (once (type_uses insts)) types (new_names [] (type_uses insts))
    (at_rises (IsUsedBefore insts) types are.in_order) (new_rise [] (type_uses insts))
    (λ t among. new_has [] (type_uses insts) t ((are.members t).0 among) refl)
    (λ t among. (are.members t).1 (in_new [] (type_uses insts) t among).0)

-- ---- by a set that keeps its order

-- the types in the set, and those that these instances use first
abbrev pub with_kinds : Names → List InstDesc → List (List ℕ)
with_kinds names insts = bytes_of names ++ new_names (bytes_of names) (type_uses insts)

pub from_none : (insts : List InstDesc) (names : Names) → names ≡ [] → with_kinds names insts ≡ types_of insts
unfolding types_of
from_none insts names none = ap (λ ns. with_kinds ns insts) none

pub next_kind : (old new : Names) (n : Bor (List ℕ)) (insts : List InstDesc) (i : ℕ) (inst d : InstDesc) (whole : List (List ℕ)) → i < length insts → inst ≡ get_or insts i d
    → n.now ≡ inst.kind → new ≡ inserted old n → with_kinds old (drop i insts) ≡ whole → with_kinds new (drop (i + 1) insts) ≡ whole
next_kind old new n insts i inst d whole lt is named added before =
    let cut : drop i insts ≡ inst ∷ drop (i + 1) insts = rw add-one (drop-cons insts i d lt ∙ ap (λ y. y ∷ drop (suc i) insts) (sym is)) in
    one_more_use (bytes_of old) (bytes_of new) n.now (type_uses (drop (i + 1) insts)) (ap bytes_of added ∙ inserted_bytes old n)
    ∙ ap (λ k. bytes_of old ++ new_names (bytes_of old) (k ∷ type_uses (drop (i + 1) insts))) named
    ∙ ap (λ l. with_kinds old l) (sym cut)
    ∙ before

pub last_kind : (names : Names) (insts : List InstDesc) (i : ℕ) → length insts ≤ i → with_kinds names (drop i insts) ≡ bytes_of names
last_kind names insts i h = ap (λ l. with_kinds names l) (drop_all i insts h) ∙ no_use (bytes_of names)
