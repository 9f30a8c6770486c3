-- Gaps: blanks and comments. A family leads from a place and the text there to the place behind a part and the text left.
use Rattle.std.specs.Prelude.{ℕ, ◌≡◌, ◌⊎◌, Bool, true, false, ◌&&◌, ◌||◌, ◌==◌, List, [], ◌∷◌}
use Rattle.cg_docspec.specs.Characters.{line_feed, carriage_return, hash, star, slash, is_blank, is_control}
use Rattle.cg_docspec.specs.Place.{Place, next_place}

-- the text begins with these characters
abbrev pub starts : List ℕ → List ℕ → Bool
starts [] s = true
starts (p ∷ ps) [] = false
starts (p ∷ ps) (c ∷ s) = c == p && starts ps s

-- A line end is a line feed, or a carriage return and a line feed. A line ends at the text's end, too.
abbrev pub at_line_end : List ℕ → Bool
at_line_end [] = true
at_line_end (c ∷ s) = c == line_feed || starts (carriage_return ∷ line_feed ∷ []) (c ∷ s)

-- #, // or /*
abbrev pub at_comment : List ℕ → Bool
at_comment s = starts (hash ∷ []) s || starts (slash ∷ slash ∷ []) s || starts (slash ∷ star ∷ []) s

-- up to the next line end or the text's end, with the characters
pub data Line : Place → List ℕ → List ℕ → Place → List ℕ → Type 0 where
  line_end : {at : Place} {s : List ℕ} → at_line_end s ≡ true → Line at s [] at s
  line_more : {at at' : Place} {c : ℕ} {s w r : List ℕ} → is_control c ≡ false → Line (next_place at c) s w at' r → Line at (c ∷ s) (c ∷ w) at' r

-- up to the first */, and behind it
pub data Block : Place → List ℕ → Place → List ℕ → Type 0 where
  block_end : {at : Place} {c d : ℕ} {s : List ℕ} → c ≡ star → d ≡ slash → Block at (c ∷ d ∷ s) (next_place (next_place at c) d) s
  block_more : {at at' : Place} {c : ℕ} {s r : List ℕ} → starts (star ∷ slash ∷ []) (c ∷ s) ≡ false → (is_control c ≡ false) ⊎ (c ≡ line_feed) →
      Block (next_place at c) s at' r → Block at (c ∷ s) at' r
  block_crlf : {at at' : Place} {c d : ℕ} {s r : List ℕ} → c ≡ carriage_return → d ≡ line_feed → Block (next_place (next_place at c) d) s at' r →
      Block at (c ∷ d ∷ s) at' r

-- any run of blanks and comments; blanks are spaces, tabs and line ends
pub data Gap : Place → List ℕ → Place → List ℕ → Type 0 where
  no_gap : {at : Place} {s : List ℕ} → Gap at s at s
  blank : {at at' : Place} {c : ℕ} {s r : List ℕ} → is_blank c ≡ true → Gap (next_place at c) s at' r → Gap at (c ∷ s) at' r
  crlf : {at at' : Place} {c d : ℕ} {s r : List ℕ} → c ≡ carriage_return → d ≡ line_feed → Gap (next_place (next_place at c) d) s at' r →
      Gap at (c ∷ d ∷ s) at' r
  hash_comment : {at at1 at' : Place} {c : ℕ} {s w s1 r : List ℕ} → c ≡ hash → Line (next_place at c) s w at1 s1 → Gap at1 s1 at' r →
      Gap at (c ∷ s) at' r
  slash_comment : {at at1 at' : Place} {c d : ℕ} {s w s1 r : List ℕ} → c ≡ slash → d ≡ slash → Line (next_place (next_place at c) d) s w at1 s1 →
      Gap at1 s1 at' r → Gap at (c ∷ d ∷ s) at' r
  block_comment : {at at1 at' : Place} {c d : ℕ} {s s1 r : List ℕ} → c ≡ slash → d ≡ star → Block (next_place (next_place at c) d) s at1 s1 →
      Gap at1 s1 at' r → Gap at (c ∷ d ∷ s) at' r
