-- The first members of each key are those that a look-up finds.
use Rattle.std.proofs.Common.{◌≡◌, ℕ, Bool, true, false, ◌||◌, cond, List, [], ◌∷◌, Some, inl, inr, refl, sym, ap, subst, ◌∙◌}
use Rattle.std.proofs.lemmas.Slice.Eq.{bytes_eq-Decides}
use Rattle.std.specs.Cmp.Lexicographic.{nat_list_eq_equiv}
use Rattle.std.specs.List.{list_any}
use Rattle.std.specs.Str.{bytes_eq}
use Rattle.cg_finding.specs.Finding.{Among}
use Rattle.cg_hjson.specs.declared.tree.Tree.{Tree}
use Rattle.cg_hjson.specs.declared.tree.Member.{Member}
use Rattle.cg_keys.specs.Table.{value_at}
use Rattle.cg_keys.specs.Lists.{first_members_after}

abbrev known : List (List ℕ) → List ℕ → Bool
known before key = list_any (bytes_eq key) before

both_false : (a b : Bool) → (a || b) ≡ false → (a ≡ false) × (b ≡ false)
both_false true b h = cc
both_false false b h = (refl, h)

-- a first member is what a look-up of its key finds, and its key is none of those before
pub record Found (before : List (List ℕ)) (ms : List Member) (m : Member) : Type 0 where
  pub there : value_at m.key ms ≡ Some m.value
  pub new : known before m.key ≡ false

pub first_is_found : (before : List (List ℕ)) (ms : List Member) (m : Member) → Among m (first_members_after before ms) → Found before ms m
unfolding first_members_after value_at
first_is_found before [] m among = absurd among
first_is_found before (x ∷ xs) m among = by (λ b h. first_is_found b xs m h) (known before x.key) refl among
  where
    later : bytes_eq x.key m.key ≡ false → value_at m.key xs ≡ Some m.value → value_at m.key (x ∷ xs) ≡ Some m.value
    later other there = ap (λ b. cond b (Some x.value) (value_at m.key xs)) other ∙ there

    other_key : known before x.key ≡ true → known before m.key ≡ false → (same : Bool) → bytes_eq x.key m.key ≡ same → same ≡ false
    other_key old new true is = let e : known before x.key ≡ known before m.key = ap (known before) ((bytes_eq-Decides x.key m.key).0 is) in cc
    other_key old new false is = refl

    by : ((b : List (List ℕ)) → Among m (first_members_after b xs) → Found b xs m)
        → (b : Bool) → known before x.key ≡ b → Among m (cond b (first_members_after before xs) (x ∷ first_members_after (x.key ∷ before) xs)) → Found before (x ∷ xs) m
    by more true old h =
        let rest = more before h in
        record { there = later (other_key old rest.new (bytes_eq x.key m.key) refl) rest.there; new = rest.new }
    by more false fresh (inl is) = record {
      there = subst (λ (y : Member). value_at y.key (x ∷ xs) ≡ Some y.value) (sym is) (ap (λ b. cond b (Some x.value) (value_at x.key xs)) ((bytes_eq-Decides x.key x.key).1 refl));
      new = subst (λ (y : Member). known before y.key ≡ false) (sym is) fresh;
    }
    by more false fresh (inr h) =
        let rest = more (x.key ∷ before) h in
        let parts = both_false (bytes_eq m.key x.key) (known before m.key) rest.new in
        record { there = later (nat_list_eq_equiv.symm x.key m.key ∙ parts.0) rest.there; new = parts.1 }

-- what a look-up finds is a first member
pub record First (key : List ℕ) (value : Tree) (ms : List Member) : Type 0 where
  pub member : Member
  pub among : Among member ms
  pub key_is : member.key ≡ key
  pub value_is : member.value ≡ value

pub found_is_first : (before : List (List ℕ)) (ms : List Member) (key : List ℕ) (value : Tree) → known before key ≡ false → value_at key ms ≡ Some value
    → First key value (first_members_after before ms)
unfolding first_members_after value_at
found_is_first before [] key value new there = cc
found_is_first before (x ∷ xs) key value new there = by (λ b n h. found_is_first b xs key value n h) (bytes_eq x.key key) refl (known before x.key) refl there
  where
    widen : (y : Member) (ms : List Member) → First key value ms → First key value (y ∷ ms)
    widen y ms f = record { member = f.member; among = inr f.among; key_is = f.key_is; value_is = f.value_is }

    by : ((b : List (List ℕ)) → known b key ≡ false → value_at key xs ≡ Some value → First key value (first_members_after b xs))
        → (same : Bool) → bytes_eq x.key key ≡ same → (b : Bool) → known before x.key ≡ b → cond same (Some x.value) (value_at key xs) ≡ Some value
        → First key value (cond b (first_members_after before xs) (x ∷ first_members_after (x.key ∷ before) xs))
    by more true is true old h = let e : known before x.key ≡ known before key = ap (known before) ((bytes_eq-Decides x.key key).0 is) in cc
    by more true is false fresh h = record { member = x; among = inl refl; key_is = (bytes_eq-Decides x.key key).0 is; value_is = cc }
    by more false is true old h = more before new h
    by more false is false fresh h =
        widen x (first_members_after (x.key ∷ before) xs)
        (more (x.key ∷ before) (ap (λ b. b || known before key) (nat_list_eq_equiv.symm key x.key ∙ is) ∙ new) h)

-- a first member is a member
pub first_is_member : (before : List (List ℕ)) (ms : List Member) (m : Member) → Among m (first_members_after before ms) → Among m ms
unfolding first_members_after
first_is_member before [] m among = absurd among
first_is_member before (x ∷ xs) m among = by (λ b h. first_is_member b xs m h) (known before x.key) among
  where
    by : ((b : List (List ℕ)) → Among m (first_members_after b xs) → Among m xs) → (b : Bool)
        → Among m (cond b (first_members_after before xs) (x ∷ first_members_after (x.key ∷ before) xs)) → Among m (x ∷ xs)
    by more true h = inr (more before h)
    by more false (inl is) = inl is
    by more false (inr h) = inr (more (x.key ∷ before) h)
