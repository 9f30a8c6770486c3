-- Where a text has scalars alone, what stands behind one of its gaps has, too.
use Rattle.std.proofs.Common.{◌≡◌, ℕ, List, [], ◌∷◌, ◌++◌, refl, true}
use Rattle.std.proofs.lemmas.Bool.{and_parts}
use lib.Utf8.{scalar, scalars}
use Rattle.cg_docspec.specs.Place.{Place}
use Rattle.cg_docspec.specs.Gap.{Line, line_end, line_more, Block, block_end, block_more, block_crlf, Gap, no_gap, blank, crlf, hash_comment, slash_comment, block_comment}
use Rattle.cg_docspec.specs.Document.{Comma, no_comma, one_comma}

-- the characters are all scalars
abbrev pub AreScalars : List ℕ → Type 0
AreScalars s = scalars s ≡ true

-- the first character is one, and the others are
pub split : (c : ℕ) (s : List ℕ) → AreScalars (c ∷ s) → (scalar c ≡ true) × AreScalars s
split c s e = and_parts (scalar c) (scalars s) e

-- behind the first character
pub rest : (c : ℕ) (s : List ℕ) → AreScalars (c ∷ s) → AreScalars s
rest c s e = (split c s e).1

-- both hold, so the characters with the first one are scalars
pub joined : (c : ℕ) (s : List ℕ) → scalar c ≡ true → AreScalars s → AreScalars (c ∷ s)
joined c s e f = rw (e, f) refl

-- behind some characters
pub behind : (u r : List ℕ) → AreScalars (u ++ r) → AreScalars r
behind [] r e = e
behind (c ∷ u) r e = behind u r (rest c (u ++ r) e)

-- the characters of a line and those behind it
pub line_scalars : {at at' : Place} {s w r : List ℕ} → Line at s w at' r → AreScalars s → AreScalars w × AreScalars r
line_scalars (line_end e) h = (refl, h)
line_scalars (line_more {at} {at'} {c} {s} {w} {r} e l) h =
    let parts = split c s h in
    let more = line_scalars l parts.1 in
    (joined c w parts.0 more.0, more.1)

-- behind a comment
block_scalars : {at at' : Place} {s r : List ℕ} → Block at s at' r → AreScalars s → AreScalars r
block_scalars (block_end {at} {c} {d} {s} e f) h = rest d s (rest c (d ∷ s) h)
block_scalars (block_more {at} {at'} {c} {s} {r} e f b) h = block_scalars b (rest c s h)
block_scalars (block_crlf {at} {at'} {c} {d} {s} {r} e f b) h = block_scalars b (rest d s (rest c (d ∷ s) h))

-- behind a gap
pub gap_scalars : {at at' : Place} {s r : List ℕ} → Gap at s at' r → AreScalars s → AreScalars r
gap_scalars no_gap h = h
gap_scalars (blank {at} {at'} {c} {s} {r} e g) h = gap_scalars g (rest c s h)
gap_scalars (crlf {at} {at'} {c} {d} {s} {r} e f g) h = gap_scalars g (rest d s (rest c (d ∷ s) h))
gap_scalars (hash_comment {at} {at1} {at'} {c} {s} {w} {s1} {r} e l g) h = gap_scalars g (line_scalars l (rest c s h)).1
gap_scalars (slash_comment {at} {at1} {at'} {c} {d} {s} {w} {s1} {r} e f l g) h = gap_scalars g (line_scalars l (rest d s (rest c (d ∷ s) h))).1
gap_scalars (block_comment {at} {at1} {at'} {c} {d} {s} {s1} {r} e f b g) h = gap_scalars g (block_scalars b (rest d s (rest c (d ∷ s) h)))

-- behind a comma or none
pub comma_scalars : {at at' : Place} {s r : List ℕ} → Comma at s at' r → AreScalars s → AreScalars r
comma_scalars no_comma h = h
comma_scalars (one_comma {at} {at'} {c} {s} {r} e g) h = gap_scalars g (rest c s h)
