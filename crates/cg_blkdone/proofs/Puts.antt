-- Values that are put at keys: what stands there then, and that the same values put again change nothing.
use Rattle.std.proofs.Common.{◌≡◌, ℕ, Bool, true, false, ◌||◌, List, [], ◌∷◌, ◌++◌, Option, Some, None, cond, bytes_eq, Ordering, Less, Equal, Greater, nat_cmp, refl, sym, ap, ◌∙◌, true≢false}
use Rattle.std.proofs.lemmas.Cmp.{nat_list_cmp_total, tied_itself}
use Rattle.std.proofs.lemmas.Slice.Eq.{bytes_eq-Decides}
use Rattle.std.specs.Cmp.Lexicographic.{slice_cmp}
use Rattle.serde_json.specs.Data.{Data, Members, no_members, member, object, put}
use Rattle.serde_json.specs.Data as json
use Rattle.serde_json.specs.Find.{get_member}
use Rattle.serde_json.proofs.Views.{get_member-put, get_member-put_other}
use Rattle.cg_hjson.proofs.Puts.{put-put}
use Rattle.cg_keys.specs.Forms.{or_else}
use Rattle.cg_blkdone.specs.Full.{Pair, pair_if, put_all, with_all}

-- the order of keys
abbrev pub cmp : List ℕ → List ℕ → Ordering
cmp k l = slice_cmp nat_cmp k l

same_key : (k : List ℕ) → cmp k k ≡ Equal
same_key k = tied_itself nat_list_cmp_total k

-- ---- one value

again_at : (o : Ordering) (k l : List ℕ) (d e f : Data) (ms : Members) → cmp k l ≡ o → put k d (put k e ms) ≡ put k d ms
    → put k d (put k e (member l f ms)) ≡ put k d (member l f ms)
again_at Less k l d e f ms is more = rw (is, same_key k) refl
again_at Equal k l d e f ms is more = rw (is, is) refl
again_at Greater k l d e f ms is more = rw (is, is) (ap (member l f) more)

-- of two values at one key the later stays
pub put_again : (k : List ℕ) (d e : Data) (ms : Members) → put k d (put k e ms) ≡ put k d ms
put_again k d e no_members = rw (same_key k) refl
put_again k d e (member l f ms) = again_at (cmp k l) k l d e f ms refl (put_again k d e ms)

-- ---- several values

-- a key is one of the pairs'
abbrev pub is_among : List ℕ → List Pair → Bool
is_among k [] = false
is_among k (p ∷ ps) = bytes_eq k p.key || is_among k ps

-- the last value at a key
abbrev pub last_at : List ℕ → List Pair → Option Data
last_at k [] = None
last_at k (p ∷ ps) = or_else (last_at k ps) (cond (bytes_eq k p.key) (Some p.value) None)

put_over_by : (b : Bool) (p : Pair) (ps : List Pair) (k : List ℕ) (d : Data) (ms : Members) → bytes_eq k p.key ≡ b → (b || is_among k ps) ≡ true
    → ((ns : Members) → is_among k ps ≡ true → put_all ps (put k d ns) ≡ put_all ps ns)
    → put_all ps (put p.key p.value (put k d ms)) ≡ put_all ps (put p.key p.value ms)
put_over_by true p ps k d ms is among more =
    let same : k ≡ p.key = (bytes_eq-Decides k p.key).0 is in
    ap (λ l. put_all ps (put p.key p.value (put l d ms))) same ∙ ap (put_all ps) (put_again p.key p.value d ms)
put_over_by false p ps k d ms is among more =
    ap (put_all ps) (sym (put-put k p.key d p.value ms is)) ∙ more (put p.key p.value ms) among

-- a value that is put before another at its key is lost
pub put_over : (ps : List Pair) (k : List ℕ) (d : Data) (ms : Members) → is_among k ps ≡ true → put_all ps (put k d ms) ≡ put_all ps ms
put_over [] k d ms among = absurd cc
put_over (p ∷ ps) k d ms among = put_over_by (bytes_eq k p.key) p ps k d ms refl among (λ ns. put_over ps k d ns)

both_false : (a b : Bool) → (a || b) ≡ false → (a ≡ false) × (b ≡ false)
both_false true b e = absurd cc
both_false false b e = (refl, e)

-- a value at another key may be put before or after
pub put_apart : (ps : List Pair) (k : List ℕ) (d : Data) (ms : Members) → is_among k ps ≡ false → put_all ps (put k d ms) ≡ put k d (put_all ps ms)
put_apart [] k d ms other = refl
put_apart (p ∷ ps) k d ms other =
    let apart = both_false (bytes_eq k p.key) (is_among k ps) other in
    ap (put_all ps) (sym (put-put k p.key d p.value ms apart.0)) ∙ put_apart ps k d (put p.key p.value ms) apart.1

twice_by : (b : Bool) (p : Pair) (ps : List Pair) (ms : Members) → is_among p.key ps ≡ b
    → ((ns : Members) → put_all ps (put_all ps ns) ≡ put_all ps ns)
    → put_all ps (put p.key p.value (put_all ps (put p.key p.value ms))) ≡ put_all ps (put p.key p.value ms)
twice_by true p ps ms is more =
    put_over ps p.key p.value (put_all ps (put p.key p.value ms)) is ∙ more (put p.key p.value ms)
twice_by false p ps ms is more =
    let first : Members = put p.key p.value ms in
    ap (put_all ps) (sym (put_apart ps p.key p.value first is))
    ∙ ap (λ ns. put_all ps (put_all ps ns)) (put_again p.key p.value p.value ms) ∙ more first

-- the same values once more change nothing
pub put_all_twice : (ps : List Pair) (ms : Members) → put_all ps (put_all ps ms) ≡ put_all ps ms
put_all_twice [] ms = refl
put_all_twice (p ∷ ps) ms = twice_by (is_among p.key ps) p ps ms refl (put_all_twice ps)

-- the same of a value
pub with_all_twice : (ps : List Pair) (d : Data) → with_all ps (with_all ps d) ≡ with_all ps d
unfolding with_all
with_all_twice ps json.null = refl
with_all_twice ps (json.boolean b) = refl
with_all_twice ps (json.number n) = refl
with_all_twice ps (json.string s) = refl
with_all_twice ps (json.array ds) = refl
with_all_twice ps (object ms) = ap object (put_all_twice ps ms)

-- ---- what stands at a key

put_found_by : (b : Bool) (k l : List ℕ) (d : Data) (ms : Members) → bytes_eq k l ≡ b → get_member k (put l d ms) ≡ or_else (cond b (Some d) None) (get_member k ms)
put_found_by true k l d ms is =
    let same : k ≡ l = (bytes_eq-Decides k l).0 is in ap (λ n. get_member n (put l d ms)) same ∙ get_member-put l d ms
put_found_by false k l d ms is = get_member-put_other k l d ms (λ same. true≢false (sym ((bytes_eq-Decides k l).1 same) ∙ is))

or_else_assoc : (a b c : Option Data) → or_else a (or_else b c) ≡ or_else (or_else a b) c
or_else_assoc None b c = refl
or_else_assoc (Some x) b c = refl

-- the last of the values at the key, or else what stood there
pub found_in_all : (k : List ℕ) (ps : List Pair) (ms : Members) → get_member k (put_all ps ms) ≡ or_else (last_at k ps) (get_member k ms)
found_in_all k [] ms = refl
found_in_all k (p ∷ ps) ms =
    found_in_all k ps (put p.key p.value ms)
    ∙ ap (or_else (last_at k ps)) (put_found_by (bytes_eq k p.key) k p.key p.value ms refl)
    ∙ or_else_assoc (last_at k ps) (cond (bytes_eq k p.key) (Some p.value) None) (get_member k ms)

-- nothing else
pub or_else_none : (a : Option Data) → or_else a None ≡ a
or_else_none None = refl
or_else_none (Some x) = refl

-- the last of two lists of pairs
pub last_in_both : (k : List ℕ) (ps qs : List Pair) → last_at k (ps ++ qs) ≡ or_else (last_at k qs) (last_at k ps)
last_in_both k [] qs = sym (or_else_none (last_at k qs))
last_in_both k (p ∷ ps) qs =
    let here : Option Data = cond (bytes_eq k p.key) (Some p.value) None in
    ap (λ o. or_else o here) (last_in_both k ps qs) ∙ sym (or_else_assoc (last_at k qs) (last_at k ps) here)

abbrev nothing : Option Data
nothing = None

-- nothing either way
pub none_either : (b : Bool) → nothing ≡ cond b nothing nothing
none_either true = refl
none_either false = refl

-- a pair that may be missing
pub last_in_pair_if : (k key : List ℕ) (d : Option Data) → last_at k (pair_if key d) ≡ cond (bytes_eq k key) d None
last_in_pair_if k key None = none_either (bytes_eq k key)
last_in_pair_if k key (Some d) = refl
