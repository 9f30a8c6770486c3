-- Where a text has scalars alone, its strings are UTF-8: quoted ones, keys, and multi-line ones.
use Rattle.std.proofs.Common.{◌≡◌, ℕ, ◌<◌, List, [], ◌∷◌, ◌++◌, Some, None, refl, arith, true, false, Bool}
use Rattle.std.specs.Prelude.{◌-◌, ◌&&◌, ◌||◌, ◌==◌, cond, nat_lt, IsUtf8, encode_utf8}
use Rattle.std.proofs.lemmas.Bool.Decides.{nat_tests}
use Rattle.std.proofs.lemmas.Str.{IsUtf8-append, IsUtf8-encode, IsUtf8-nil}
use lib.Utf8.{scalar, encodes, low_scalar}
use Rattle.cg_docspec.specs.Characters.{double_quote, single_quote, slash, backslash, line_feed, is_space}
use Rattle.cg_docspec.specs.Place.{Place}
use Rattle.cg_docspec.specs.Quoted.{escaped, paired, Quoted, closes, as_is, escape, unit, pair}
use Rattle.cg_docspec.specs.Lines.{Lines, lines_end, lines_more, lines_crlf, is_nil, undented, opened, without_last_feed, lines_text}
use Rattle.cg_docspec.specs.Document.{trimmed, KeyRun, run_end, run_more, Key, quoted_key, run_key}
use Rattle.cg_jsonspec.proofs.SayableGaps.{AreScalars, split, rest, joined, behind}

-- ---- strings of scalars

-- the bytes of scalars
pub encoded : (cs : List ℕ) → AreScalars cs → IsUtf8 (encodes cs)
encoded cs e = (cs, (e, refl))

-- a scalar before a text that is UTF-8
before : (c : ℕ) (u : List ℕ) → scalar c ≡ true → IsUtf8 u → IsUtf8 (encode_utf8 c ++ u)
before c u e h = IsUtf8-append (encode_utf8 c) u (IsUtf8-encode c e) h

-- an escape stands for a scalar
escaped_scalar : (c v : ℕ) → escaped c ≡ Some v → scalar v ≡ true
escaped_scalar c v e = low_scalar v (small (c == double_quote || c == single_quote || c == backslash || c == slash) (c == 98) (c == 102) (c == 110) (c == 114) (c == 116) refl e)
  where
    small : (w b f n r t : Bool) → (c == double_quote || c == single_quote || c == backslash || c == slash) ≡ w →
        cond w (Some c) (cond b (Some 8) (cond f (Some 12) (cond n (Some 10) (cond r (Some 13) (cond t (Some 9) None))))) ≡ Some v → v < 55296
    small true b f n r t q e = let same : c ≡ v = cc in grind (arith, nat_tests)
    small false true f n r t q e = let same : 8 ≡ v = cc in omega arith
    small false false true n r t q e = let same : 12 ≡ v = cc in omega arith
    small false false false true r t q e = let same : 10 ≡ v = cc in omega arith
    small false false false false true t q e = let same : 13 ≡ v = cc in omega arith
    small false false false false false true q e = let same : 9 ≡ v = cc in omega arith
    small false false false false false false q e = cc

-- and so do two surrogates
paired_scalar : (v w : ℕ) → scalar (paired v w) ≡ true
paired_scalar v w = grind (arith, nat_tests)

-- ---- quoted strings and keys

-- a quoted string
pub quoted_string : {q : ℕ} {at at' : Place} {s u r : List ℕ} → Quoted q at s u at' r → AreScalars s → IsUtf8 u × AreScalars r
quoted_string (closes {at} {c} {s} e) h = (IsUtf8-nil, rest c s h)
quoted_string (as_is {at} {at'} {c} {s} {u} {r} e f g l) h =
    let parts = split c s h in
    let more = quoted_string l parts.1 in
    (before c u parts.0 more.0, more.1)
quoted_string (escape {at} {at'} {c} {d} {v} {s} {u} {r} e f l) h =
    let more = quoted_string l (rest d s (rest c (d ∷ s) h)) in
    (before v u (escaped_scalar d v f) more.0, more.1)
quoted_string (unit {at} {at'} {c} {d} {v} {s} {u} {r} x e f i is l) h =
    let more = quoted_string l (behind x s (rest d (x ++ s) (rest c (d ∷ (x ++ s)) h))) in
    (before v u is more.0, more.1)
quoted_string (pair {at} {at'} {c} {d} {e} {f} {v} {w} {s} {u} {r} x y ec ed i high ee ef j low l) h =
    let second_unit : List ℕ = e ∷ f ∷ (y ++ s) in
    let second_scalars : AreScalars second_unit = behind x second_unit (rest d (x ++ second_unit) (rest c (d ∷ (x ++ second_unit)) h)) in
    let more = quoted_string l (behind y s (rest f (y ++ s) (rest e (f ∷ (y ++ s)) second_scalars))) in
    (before (paired v w) u (paired_scalar v w) more.0, more.1)

-- the characters of a key
run_string : {at at' : Place} {s u r : List ℕ} → KeyRun at s u at' r → AreScalars s → IsUtf8 u × AreScalars r
run_string (run_end e) h = (IsUtf8-nil, h)
run_string (run_more {at} {at'} {c} {s} {u} {r} e l) h =
    let parts = split c s h in
    let more = run_string l parts.1 in
    (before c u parts.0 more.0, more.1)

-- a key
pub key_string : {at at' : Place} {s u r : List ℕ} → Key at s u at' r → AreScalars s → IsUtf8 u × AreScalars r
key_string (quoted_key {at} {at'} {c} {s} {u} {r} e q) h = quoted_string q (rest c s h)
key_string (run_key {at} {at'} {c} {s} {u} {r} e f g l) h =
    let parts = split c s h in
    let more = run_string l parts.1 in
    (before c u parts.0 more.0, more.1)

-- ---- multi-line strings

-- its characters
pub lines_scalars : {at at' : Place} {s w r : List ℕ} → Lines at s w at' r → AreScalars s → AreScalars w × AreScalars r
lines_scalars (lines_end {at} {c} {d} {e} {s} ec ed ee) h = (refl, rest e s (rest d (e ∷ s) (rest c (d ∷ e ∷ s) h)))
lines_scalars (lines_more {at} {at'} {c} {s} {w} {r} e f l) h =
    let parts = split c s h in
    let more = lines_scalars l parts.1 in
    (joined c w parts.0 more.0, more.1)
lines_scalars (lines_crlf {at} {at'} {c} {d} {s} {w} {r} e f l) h =
    let more = lines_scalars l (rest d s (rest c (d ∷ s) h)) in
    (joined line_feed w refl more.0, more.1)

-- of two texts of scalars, whichever is chosen
either : (b : Bool) (u v : List ℕ) → AreScalars u → AreScalars v → AreScalars (cond b u v)
either true u v e f = e
either false u v e f = f

-- lines without their indents
undented_scalars : (k n : ℕ) (w : List ℕ) → AreScalars w → AreScalars (undented k n w)
undented_scalars k n [] e = refl
undented_scalars k n (c ∷ w) e =
    let parts = split c w e in
    either (is_space c && nat_lt 0 n) _ _ (undented_scalars k (n - 1) w parts.1)
    (either (c == line_feed) _ _ (joined c (undented k k w) parts.0 (undented_scalars k k w parts.1)) (joined c (undented k 0 w) parts.0 (undented_scalars k 0 w parts.1)))

-- and without what stands behind the opening
opened_scalars : (k : ℕ) (w : List ℕ) → AreScalars w → AreScalars (opened k w)
opened_scalars k [] e = refl
opened_scalars k (c ∷ w) e =
    let left : AreScalars w = rest c w e in
    either (is_space c) _ _ (opened_scalars k w left)
    (either (c == line_feed) _ _ (undented_scalars k k w left) (undented_scalars k 0 (c ∷ w) e))

-- and without a line feed at the end
without_feed_scalars : (w : List ℕ) → AreScalars w → AreScalars (without_last_feed w)
without_feed_scalars [] e = refl
without_feed_scalars (c ∷ w) e =
    let parts = split c w e in
    either (c == line_feed && is_nil w) [] (c ∷ without_last_feed w) refl (joined c (without_last_feed w) parts.0 (without_feed_scalars w parts.1))

-- a multi-line string
pub lines_string : (k : ℕ) (w : List ℕ) → AreScalars w → IsUtf8 (lines_text k w)
lines_string k w e = encoded (without_last_feed (opened k w)) (without_feed_scalars (opened k w) (opened_scalars k w e))

-- ---- unquoted strings

-- without spaces and tabs at the end
trimmed_scalars : (w : List ℕ) → AreScalars w → AreScalars (trimmed w)
trimmed_scalars [] e = refl
trimmed_scalars (c ∷ w) e =
    let parts = split c w e in
    either (is_space c && is_nil (trimmed w)) [] (c ∷ trimmed w) refl (joined c (trimmed w) parts.0 (trimmed_scalars w parts.1))

-- an unquoted string
pub trimmed_string : (w : List ℕ) → AreScalars w → IsUtf8 (encodes (trimmed w))
trimmed_string w e = encoded (trimmed w) (trimmed_scalars w e)
