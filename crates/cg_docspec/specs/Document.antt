-- A document by its grammar. Each family leads from a place and the text there to the place behind a part and the text left.
use Rattle.std.specs.Prelude.{ℕ, ◌-◌, ◌≡◌, Bool, true, false, ◌&&◌, not, if◌then◌else◌, List, [], ◌∷◌, ◌++◌, encode_utf8}
use lib.Utf8.{encodes}
use Rattle.cg_docspec.specs.Characters.{single_quote, comma, colon, open_bracket, close_bracket, open_brace, close_brace, is_space, is_key, is_quote}
use Rattle.cg_docspec.specs.Place.{Place, origin, next_place, place_after}
use Rattle.cg_docspec.specs.Tree.{Tree, tree, Kind, string, Member, list_of, object_of}
use Rattle.cg_docspec.specs.Gap.{starts, at_comment, Line, Gap}
use Rattle.cg_docspec.specs.Quoted.{Quoted}
use Rattle.cg_docspec.specs.Lines.{three_quotes, Lines, is_nil, lines_text}
use Rattle.cg_docspec.specs.Literal.{Literal, may_follow, NoLiteral}

-- ---- values without parts

-- without trailing spaces and tabs
abbrev pub trimmed : List ℕ → List ℕ
trimmed [] = []
trimmed (c ∷ s) = if is_space c && is_nil (trimmed s) then [] else c ∷ trimmed s

-- A value without parts: a quoted string, a multi-line string, a literal, or else an unquoted string. That begins with
-- none of , : [ ] { }, a quote or a comment, and runs to the line end or the text's end.
pub data Leaf : Place → List ℕ → Kind → Place → List ℕ → Type 0 where
  quoted : {at at' : Place} {c : ℕ} {s u r : List ℕ} → is_quote c ≡ true → starts three_quotes (c ∷ s) ≡ false →
      Quoted c (next_place at c) s u at' r → Leaf at (c ∷ s) (string u) at' r
  lines : {at at' : Place} {c d e : ℕ} {s w r : List ℕ} → c ≡ single_quote → d ≡ single_quote → e ≡ single_quote →
      Lines (place_after at (c ∷ d ∷ e ∷ [])) s w at' r →
      Leaf at (c ∷ d ∷ e ∷ s) (string (lines_text (at.column - 1) w)) at' r
  literal : {at : Place} {k : Kind} (u r : List ℕ) → Literal u k → may_follow r ≡ true → Leaf at (u ++ r) k (place_after at u) r
  unquoted : {at at' : Place} {c : ℕ} {s w r : List ℕ} → NoLiteral (c ∷ s) → is_key c ≡ true → is_quote c ≡ false → at_comment (c ∷ s) ≡ false →
      Line at (c ∷ s) w at' r →
      Leaf at (c ∷ s) (string (encodes (trimmed w))) at' r

-- ---- keys

-- no character of a key comes next
abbrev pub ends_key : List ℕ → Bool
ends_key [] = true
ends_key (c ∷ s) = not (is_key c)

-- the longest run of characters that are neither a blank nor one of , : [ ] { }
pub data KeyRun : Place → List ℕ → List ℕ → Place → List ℕ → Type 0 where
  run_end : {at : Place} {s : List ℕ} → ends_key s ≡ true → KeyRun at s [] at s
  run_more : {at at' : Place} {c : ℕ} {s u r : List ℕ} → is_key c ≡ true → KeyRun (next_place at c) s u at' r →
      KeyRun at (c ∷ s) (encode_utf8 c ++ u) at' r

-- a quoted string, or such a run of at least one character, which begins with no quote and no comment
pub data Key : Place → List ℕ → List ℕ → Place → List ℕ → Type 0 where
  quoted_key : {at at' : Place} {c : ℕ} {s u r : List ℕ} → is_quote c ≡ true → Quoted c (next_place at c) s u at' r → Key at (c ∷ s) u at' r
  run_key : {at at' : Place} {c : ℕ} {s u r : List ℕ} → is_key c ≡ true → is_quote c ≡ false → at_comment (c ∷ s) ≡ false →
      KeyRun (next_place at c) s u at' r → Key at (c ∷ s) (encode_utf8 c ++ u) at' r

-- ---- values

-- optionally one comma and a gap
pub data Comma : Place → List ℕ → Place → List ℕ → Type 0 where
  no_comma : {at : Place} {s : List ℕ} → Comma at s at s
  one_comma : {at at' : Place} {c : ℕ} {s r : List ℕ} → c ≡ comma → Gap (next_place at c) s at' r → Comma at (c ∷ s) at' r

mutual
  -- {, a gap, members, }
  pub data Object : Place → List ℕ → Tree → Place → List ℕ → Type 0 where
    object : {at at1 at2 : Place} {c d : ℕ} {s s1 s2 : List ℕ} {ms : List Member} →
        c ≡ open_brace → Gap (next_place at c) s at1 s1 → MemberRun at1 s1 ms at2 (d ∷ s2) → d ≡ close_brace →
        Object at (c ∷ s) (object_of ms at) (next_place at2 d) s2

  -- an object; a list: [, a gap, values, ]; or a value without parts
  pub data Value : Place → List ℕ → Tree → Place → List ℕ → Type 0 where
    object_value : {at at' : Place} {s r : List ℕ} {t : Tree} → Object at s t at' r → Value at s t at' r
    list_value : {at at1 at2 : Place} {c d : ℕ} {s s1 s2 : List ℕ} {ts : List Tree} →
        c ≡ open_bracket → Gap (next_place at c) s at1 s1 → ValueRun at1 s1 ts at2 (d ∷ s2) → d ≡ close_bracket →
        Value at (c ∷ s) (list_of ts at) (next_place at2 d) s2
    leaf_value : {at at' : Place} {s r : List ℕ} {k : Kind} → Leaf at s k at' r → Value at s (tree k at) at' r

  -- values, each followed by a gap and optionally one comma and a gap
  pub data ValueRun : Place → List ℕ → List Tree → Place → List ℕ → Type 0 where
    no_value : {at : Place} {s : List ℕ} → ValueRun at s [] at s
    one_value : {at at1 at2 at3 at' : Place} {s s1 s2 s3 r : List ℕ} {t : Tree} {ts : List Tree} →
        Value at s t at1 s1 → Gap at1 s1 at2 s2 → Comma at2 s2 at3 s3 → ValueRun at3 s3 ts at' r → ValueRun at s (t ∷ ts) at' r

  -- members, each a key, a gap, :, a gap, a value, a gap, and optionally one comma and a gap
  pub data MemberRun : Place → List ℕ → List Member → Place → List ℕ → Type 0 where
    no_member : {at : Place} {s : List ℕ} → MemberRun at s [] at s
    one_member : {at at1 at2 at3 at4 at5 at6 at' : Place} {d : ℕ} {s k s1 s2 s3 s4 s5 s6 r : List ℕ} {t : Tree} {ms : List Member} →
        Key at s k at1 s1 → Gap at1 s1 at2 (d ∷ s2) → d ≡ colon → Gap (next_place at2 d) s2 at3 s3 →
        Value at3 s3 t at4 s4 → Gap at4 s4 at5 s5 → Comma at5 s5 at6 s6 → MemberRun at6 s6 ms at' r →
        MemberRun at s (record { key = k; key_place = at; value = t } ∷ ms) at' r

-- a gap, an object, a gap, and the text's end
pub data Document : List ℕ → Tree → Type 0 where
  document : {at1 at2 at3 : Place} {s s1 s2 : List ℕ} {t : Tree} → Gap origin s at1 s1 → Object at1 s1 t at2 s2 → Gap at2 s2 at3 [] → Document s t
