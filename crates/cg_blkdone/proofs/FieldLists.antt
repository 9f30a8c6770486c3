-- The completed fields of a register are the same fields in the same order, and complete.
use Rattle.std.proofs.Common.{◌≡◌, ℕ, suc, ◌+◌, Bool, true, false, List, [], ◌∷◌, map, length, Option, cond, nat_lt, refl, sym, ap, ◌∙◌}
use Rattle.serde_json.specs.Data.{Data}
use Rattle.serde_json.specs.View.{items_of as json_items}
use Rattle.cg_desc.specs.declared.block.FieldDesc.{FieldDesc}
use Rattle.cg_hjson.specs.declared.tree.Tree.{Tree}
use Rattle.cg_blkread.specs.Described.{field_desc, in_bit_order, put_field}
use Rattle.cg_blkread.specs.Raw.{Shared, raw_field, raw_fields}
use Rattle.cg_blkdone.specs.Full.{full_fields}
use Rattle.cg_blkdone.specs.Places.{field_unplaced}
use Rattle.cg_blkdone.proofs.CompletedFields.{IsWord, described_field, field_twice, same_field}
use Rattle.cg_blkdone.proofs.Told.{listed, told}

-- ---- lists

-- the values of a list that is made of values
pub listed_items : (ds : List Data) → listed (json_items ds) ≡ ds
listed_items [] = refl
listed_items (d ∷ ds) = ap (λ es. d ∷ es) (listed_items ds)

abbrev first_or : {X : Type 0} → X → List X → X
first_or x [] = x
first_or x (y ∷ ys) = y

abbrev rest_of : {X : Type 0} → List X → List X
rest_of [] = []
rest_of (y ∷ ys) = ys

-- lists that are the same have the same first item
pub first_same : {X : Type 0} (x y : X) (xs ys : List X) → x ∷ xs ≡ y ∷ ys → x ≡ y
first_same x y xs ys same = ap (first_or x) same

-- and the same items behind it
pub rest_same : {X : Type 0} (x y : X) (xs ys : List X) → x ∷ xs ≡ y ∷ ys → xs ≡ ys
rest_same x y xs ys same = ap rest_of same

-- ---- fields

abbrev FieldsCompleted : Shared → Option ℕ → ℕ → List Tree → List Tree → Type 0
FieldsCompleted shared register_resval n ts us = map told us ≡ full_fields shared register_resval n ts

-- completed fields are complete
pub fields_twice : (shared : Shared) (register_resval : Option ℕ) (n : ℕ) (ts us : List Tree) → IsWord register_resval → FieldsCompleted shared register_resval n ts us
    → full_fields shared register_resval n us ≡ full_fields shared register_resval n ts
unfolding full_fields
fields_twice shared register_resval n [] [] word done = refl
fields_twice shared register_resval n [] (u ∷ us) word done = absurd cc
fields_twice shared register_resval n (t ∷ ts) [] word done = absurd cc
fields_twice shared register_resval n (t ∷ ts) (u ∷ us) word done =
    let one = field_twice register_resval shared n t u word (first_same _ _ _ _ done) in
    let more = fields_twice shared register_resval (n + 1) ts us word (rest_same _ _ _ _ done) in
    λ i. one i ∷ more i

abbrev described : Shared → Option ℕ → ℕ → List Tree → List FieldDesc
described shared register_resval n ts = map field_unplaced (map (field_desc register_resval) (raw_fields shared n ts))

described_fields : (shared : Shared) (register_resval : Option ℕ) (n : ℕ) (ts us : List Tree) → IsWord register_resval → FieldsCompleted shared register_resval n ts us
    → described shared register_resval n us ≡ described shared register_resval n ts
unfolding full_fields
described_fields shared register_resval n [] [] word done = refl
described_fields shared register_resval n [] (u ∷ us) word done = absurd cc
described_fields shared register_resval n (t ∷ ts) [] word done = absurd cc
described_fields shared register_resval n (t ∷ ts) (u ∷ us) word done =
    let same = same_field register_resval shared n t u word (first_same _ _ _ _ done) in
    let one = described_field register_resval (raw_field shared n t) (raw_field shared n u) same in
    let more = described_fields shared register_resval (n + 1) ts us word (rest_same _ _ _ _ done) in
    λ i. one i ∷ more i

-- there are as many
pub as_many_fields : (shared : Shared) (register_resval : Option ℕ) (n : ℕ) (ts us : List Tree) → FieldsCompleted shared register_resval n ts us → length us ≡ length ts
unfolding full_fields
as_many_fields shared register_resval n [] [] done = refl
as_many_fields shared register_resval n [] (u ∷ us) done = absurd cc
as_many_fields shared register_resval n (t ∷ ts) [] done = absurd cc
as_many_fields shared register_resval n (t ∷ ts) (u ∷ us) done = ap suc (as_many_fields shared register_resval (n + 1) ts us (rest_same _ _ _ _ done))

-- ---- their order

either_list : (b : Bool) (fs gs : List FieldDesc) → map field_unplaced (cond b fs gs) ≡ cond b (map field_unplaced fs) (map field_unplaced gs)
either_list true fs gs = refl
either_list false fs gs = refl

put_unplaced : (f : FieldDesc) (gs : List FieldDesc) → map field_unplaced (put_field f gs) ≡ put_field (field_unplaced f) (map field_unplaced gs)
unfolding put_field
put_unplaced f [] = refl
put_unplaced f (g ∷ gs) =
    either_list (nat_lt f.lsb g.lsb) (f ∷ g ∷ gs) (g ∷ put_field f gs)
    ∙ ap (λ hs. cond (nat_lt f.lsb g.lsb) (map field_unplaced (f ∷ g ∷ gs)) (field_unplaced g ∷ hs)) (put_unplaced f gs)

order_unplaced : (fs : List FieldDesc) → map field_unplaced (in_bit_order fs) ≡ in_bit_order (map field_unplaced fs)
unfolding in_bit_order
order_unplaced [] = refl
order_unplaced (f ∷ fs) = put_unplaced f (in_bit_order fs) ∙ ap (put_field (field_unplaced f)) (order_unplaced fs)

-- the fields of a register in the order of their lowest bits, without places
abbrev pub fields_of : Shared → Option ℕ → ℕ → List Tree → List FieldDesc
fields_of shared register_resval n ts = map field_unplaced (in_bit_order (map (field_desc register_resval) (raw_fields shared n ts)))

-- completed fields are described alike
pub fields_described : (shared : Shared) (register_resval : Option ℕ) (n : ℕ) (ts us : List Tree) → IsWord register_resval → FieldsCompleted shared register_resval n ts us
    → fields_of shared register_resval n us ≡ fields_of shared register_resval n ts
fields_described shared register_resval n ts us word done =
    order_unplaced (map (field_desc register_resval) (raw_fields shared n us))
    ∙ ap in_bit_order (described_fields shared register_resval n ts us word done)
    ∙ sym (order_unplaced (map (field_desc register_resval) (raw_fields shared n ts)))
