-- Values with several parts put in place, one after another.
use Rattle.std.proofs.Common.{◌≡◌, ℕ, ◌+◌, List, [], ◌∷◌, ◌++◌, refl, sym, ap, ◌∙◌, Option}
use Rattle.serde_json.specs.Data.{Data, null, boolean, number, string, array, object, Members}
use Rattle.cg_hjson.specs.declared.tree.Tree.{Tree}
use Rattle.cg_blkread.specs.Raw.{Shared, raw_field, raw_fields}
use Rattle.cg_blkdone.specs.Full.{Pair, pair, put_all, with_all, field_pairs, full_fields, said_with, pair_if, full_lists}
use Rattle.cg_blkdone.specs.Parts.{fields_with}

-- no parts
pub with_nothing : (d : Data) → with_all [] d ≡ d
unfolding with_all
with_nothing null = refl
with_nothing (boolean b) = refl
with_nothing (number n) = refl
with_nothing (string s) = refl
with_nothing (array ds) = refl
with_nothing (object ms) = refl

-- the first of some parts, and then the others
pub with_first : (p : Pair) (ps : List Pair) (d : Data) → with_all (p ∷ ps) d ≡ with_all ps (with_all (p ∷ []) d)
unfolding with_all
with_first p ps null = refl
with_first p ps (boolean b) = refl
with_first p ps (number n) = refl
with_first p ps (string s) = refl
with_first p ps (array ds) = refl
with_first p ps (object ms) = refl

-- the same where at least two are left
pub with_more : (p q : Pair) (ps : List Pair) (d : Data) → with_all (p ∷ q ∷ ps) d ≡ with_all (q ∷ ps) (with_all (p ∷ []) d)
with_more p q ps d = with_first p (q ∷ ps) d

-- and where a last one may be there
pub with_last : (p : Pair) (key : List ℕ) (o : Option Data) (d : Data) → with_all (p ∷ pair_if key o) d ≡ with_all (pair_if key o) (with_all (p ∷ []) d)
with_last p key o d = with_first p (pair_if key o) d

-- and where the lists of entries are last
pub with_then : (p : Pair) (t : Option Tree) (d : Data) → with_all (p ∷ full_lists t) d ≡ with_all (full_lists t) (with_all (p ∷ []) d)
with_then p t d = with_first p (full_lists t) d

-- some parts put into members, and then others
put_all-append : (ps qs : List Pair) (ms : Members) → put_all (ps ++ qs) ms ≡ put_all qs (put_all ps ms)
put_all-append [] qs ms = refl
put_all-append (p ∷ ps) qs ms = put_all-append ps qs _

-- some parts, and then others
pub with_append : (ps qs : List Pair) (d : Data) → with_all (ps ++ qs) d ≡ with_all qs (with_all ps d)
unfolding with_all
with_append ps qs null = refl
with_append ps qs (boolean b) = refl
with_append ps qs (number n) = refl
with_append ps qs (string s) = refl
with_append ps qs (array ds) = refl
with_append ps qs (object ms) = ap object (put_all-append ps qs ms)

-- the fields of a register, each read from its tree
pub fields_with_raw : (s : Shared) (reset : Option ℕ) (n : ℕ) (ts : List Tree) → fields_with reset (raw_fields s n ts) ts ≡ full_fields s reset n ts
unfolding fields_with full_fields
fields_with_raw s reset n [] = refl
fields_with_raw s reset n (t ∷ ts) = ap (λ (ds : List Data). said_with (field_pairs reset (raw_field s n t)) t ∷ ds) (fields_with_raw s reset (n + 1) ts)

-- a part put in place is the first of the parts that are left
pub follow : (ps : List Pair) (key : List ℕ) (x y before after : Data) → after ≡ with_all (pair key x ∷ []) before → x ≡ y
    → with_all ps after ≡ with_all (pair key y ∷ ps) before
follow ps key x y before after is same = ap (with_all ps) is ∙ sym (with_first (pair key x) ps before) ∙ ap (λ z. with_all (pair key z ∷ ps) before) same
