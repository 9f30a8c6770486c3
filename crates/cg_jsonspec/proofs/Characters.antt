-- The characters that a layout's bytes spell.
use Rattle.std.proofs.Common.{◌≡◌, inl, inr, ℕ, zero, suc, ◌*◌, ◌<◌, ◌≤◌, Bool, true, false, List, [], ◌∷◌, ◌++◌, refl, sym, ap, ap₂, ◌∙◌, subst, arith, append_assoc, append-nil, length, get_or}
use Rattle.std.specs.Prelude.{pos, negsuc, replicate, ◌&&◌, nat_lt, decimal}
use Rattle.std.specs.Str.{chars, IsUtf8, IsAscii}
use Rattle.std.specs.Fmt.{signed_decimal}
use Rattle.std.proofs.lemmas.Bool.{and_parts, cases_eq, cases_lt, ltb-true}
use Rattle.std.proofs.lemmas.Str.{encode_ascii, inside_one, chars-encodes, encodes-chars, scalars-chars, chars-IsAscii, encodes-IsAscii, IsUtf8-from_ascii, encodes-append}
use Rattle.std.proofs.lemmas.Fmt.{IsAscii-decimal, IsAscii-signed}
use lib.Utf8.{scalar, scalars, encode, encodes, low_scalar}
use Rattle.json.specs.Print.{escape_byte, escape, quoted}
use Rattle.cg_docspec.proofs.Basics.{both}
use Rattle.serde_json.specs.Data.{Num, unsigned, negative, float, Data, Items, Members, null, boolean, number, string, array, object, no_items, item, no_members, member}
use Rattle.serde_json.specs.Written.{number_text}
use Rattle.cg_jsonspec.specs.Said.{IsIntegerOfDocuments, IsSayable, AreSayable, AreSayableMembers}
use Rattle.cg_jsonspec.specs.Layout.{line, layout, items_layout, more_items, members_layout, more_members, layout_text}
use Rattle.cg_jsonspec.proofs.Escapes.{stays}

-- ---- characters and their bytes

-- the bytes are the characters in UTF-8
pub record Spells (cs bs : List ℕ) : Type 0 where
  pub scalar : scalars cs ≡ true
  pub same : encodes cs ≡ bs

-- such bytes are UTF-8
pub utf8_of : {cs bs : List ℕ} → Spells cs bs → IsUtf8 bs
utf8_of {cs} s = (cs, (s.scalar, s.same))

-- and their characters are these
pub chars_of : {cs bs : List ℕ} → Spells cs bs → chars bs ≡ cs
chars_of {cs} s = ap chars (sym s.same) ∙ chars-encodes cs s.scalar

-- UTF-8 has characters
spells_utf8 : (s : List ℕ) → IsUtf8 s → Spells (chars s) s
spells_utf8 s u = record { scalar = scalars-chars s u; same = encodes-chars s u }

-- ASCII spells itself
spells_ascii : (s : List ℕ) → IsAscii s → Spells s s
spells_ascii s h = record {
  scalar = subst (λ l. scalars l ≡ true) (chars-IsAscii s h) (scalars-chars s (IsUtf8-from_ascii s h));
  same = encodes-IsAscii s h;
}

-- scalar values in both pieces are scalar values
scalars_joined : (a b : List ℕ) → scalars a ≡ true → scalars b ≡ true → scalars (a ++ b) ≡ true
scalars_joined [] b e f = f
scalars_joined (c ∷ a) b e f = let p = and_parts (scalar c) (scalars a) e in both (scalar c) (scalars (a ++ b)) p.0 (scalars_joined a b p.1 f)

-- pieces one behind the other
joined : {a b x y : List ℕ} → Spells a x → Spells b y → Spells (a ++ b) (x ++ y)
joined {a} {b} s t = record { scalar = scalars_joined a b s.scalar t.scalar; same = encodes-append a b ∙ ap₂ (λ (l m : List ℕ). l ++ m) s.same t.same }

-- ---- characters of one byte

-- all are below 128
abbrev are_low : List ℕ → Bool
are_low [] = true
are_low (c ∷ s) = nat_lt c 128 && are_low s

-- one such character in front
low_and : {a x : List ℕ} (c : ℕ) → c < 128 → Spells a x → Spells (c ∷ a) (c ∷ x)
low_and {a} {x} c h s = record { scalar = both (scalar c) (scalars a) (low_scalar c (omega arith)) s.scalar; same = rw (encode_ascii c h) (ap (λ (l : List ℕ). c ∷ l) s.same) }

-- nothing spells nothing
spells_nothing : Spells [] []
spells_nothing = record { scalar = refl; same = refl }

-- they spell themselves
spells_low : (s : List ℕ) → are_low s ≡ true → Spells s s
spells_low [] e = spells_nothing
spells_low (c ∷ s) e = let p = and_parts (nat_lt c 128) (are_low s) e in low_and c (ltb-true c 128 p.0) (spells_low s p.1)

-- spaces spell themselves
spells_spaces : (n : ℕ) → Spells (replicate n 32) (replicate n 32)
spells_spaces zero = spells_nothing
spells_spaces (suc n) = low_and 32 (omega arith) (spells_spaces n)

-- so does a new line
spells_line : (n : ℕ) → Spells (line n) (line n)
spells_line n = low_and 10 (omega arith) (spells_spaces (2 * n))

-- ---- strings

-- a text is escaped piece by piece
escape_joined : (a b : List ℕ) → escape (a ++ b) ≡ escape a ++ escape b
escape_joined [] b = refl
escape_joined (c ∷ a) b = ap (λ (l : List ℕ). escape_byte c ++ l) (escape_joined a b) ∙ sym (append_assoc (escape_byte c) (escape a) (escape b))

-- what stands for each of these characters
abbrev low_below : ℕ → Bool
low_below zero = true
low_below (suc n) = are_low (escape_byte n) && low_below n

-- the test says it of each character below
escape_below : (n : ℕ) → low_below n ≡ true → (c : ℕ) → c < n → are_low (escape_byte c) ≡ true
escape_below zero e c h = absurd (omega arith)
escape_below (suc n) e c h =
    let p = and_parts (are_low (escape_byte n)) (low_below n) e in
    elim (cases_eq c n) [ inl same ↦ rw same p.0 | inr other ↦ escape_below n p.1 c (omega arith) ]

-- in ASCII all is escaped in ASCII
all_low : low_below 128 ≡ true
unfolding escape_byte
all_low = refl

-- bytes that are not ASCII stand for themselves
escape_high : (bs : List ℕ) → ((k : ℕ) → k < length bs → 128 ≤ get_or bs k 0) → escape bs ≡ bs
escape_high [] h = refl
escape_high (b ∷ bs) h =
    let high : 128 ≤ b = h 0 (omega arith) in
    ap₂ (λ (l m : List ℕ). l ++ m) (stays b (omega arith) (λ e. omega arith) (λ e. omega arith)) (escape_high bs (λ k below. h (suc k) (omega arith)))

-- the bytes of a character beyond ASCII are beyond it
high_bytes : (c k : ℕ) → 128 ≤ c → k < length (encode c) → 128 ≤ get_or (encode c) k 0
high_bytes c k big below = elim (cases_lt (get_or (encode c) k 0) 128) [
  | inl low ↦ absurd (omega (arith, inside_one c [] (encode c) k (sym (append-nil (encode c))) below low))
  | inr h ↦ h
]

-- a character, and its bytes
spells_character : (c : ℕ) → scalar c ≡ true → Spells (escape_byte c) (escape (encode c))
spells_character c ok = elim (cases_lt c 128) [
  | inl small ↦ rw (encode_ascii c small, append-nil (escape_byte c)) (spells_low (escape_byte c) (escape_below 128 all_low c small))
  | inr big ↦
      rw (stays c (omega arith) (λ e. omega arith) (λ e. omega arith), escape_high (encode c) (λ k below. high_bytes c k big below))
      (record { scalar = both (scalar c) true ok refl; same = append-nil (encode c) })
]

-- characters with their escapes
spells_escape : (cs : List ℕ) → scalars cs ≡ true → Spells (escape cs) (escape (encodes cs))
spells_escape [] e = spells_nothing
spells_escape (c ∷ cs) e =
    let p = and_parts (scalar c) (scalars cs) e in
    subst (Spells (escape_byte c ++ escape cs)) (sym (escape_joined (encode c) (encodes cs))) (joined (spells_character c p.0) (spells_escape cs p.1))

-- a string between its quotes
spells_quoted : (s : List ℕ) → IsUtf8 s → Spells (quoted (chars s)) (quoted s)
spells_quoted s u =
    let inside = subst (λ b. Spells (escape (chars s)) (escape b)) (encodes-chars s u) (spells_escape (chars s) (scalars-chars s u)) in
    low_and 34 (omega arith) (joined inside (spells_low (34 ∷ []) refl))

-- ---- values

unfoldable mutual
  -- the value with its strings and keys by their characters
  pub spelled : Data → Data
  spelled null = null
  spelled (boolean b) = boolean b
  spelled (number x) = number x
  spelled (string s) = string (chars s)
  spelled (array ds) = array (spelled_items ds)
  spelled (object ms) = object (spelled_members ms)

  pub spelled_items : Items → Items
  spelled_items no_items = no_items
  spelled_items (item d ds) = item (spelled d) (spelled_items ds)

  pub spelled_members : Members → Members
  spelled_members no_members = no_members
  spelled_members (member k d ms) = member (chars k) (spelled d) (spelled_members ms)

-- an integer
spells_number : (x : Num) → IsIntegerOfDocuments x → Spells (number_text x) (number_text x)
spells_number (unsigned n) h = spells_ascii (decimal n) (IsAscii-decimal n h)
spells_number (negative (pos n)) h = absurd h
spells_number (negative (negsuc n)) h = spells_ascii (signed_decimal (negsuc n)) (IsAscii-signed (negsuc n) h)
spells_number (float x) h = absurd h

mutual
  unfolding layout items_layout more_items members_layout more_members spelled spelled_items spelled_members IsSayable AreSayable AreSayableMembers

  -- a value's text is spelled by the text of its characters
  pub spells_value : (d : Data) (n : ℕ) → IsSayable d → Spells (layout n (spelled d)) (layout n d)
  spells_value null n h = spells_low _ refl
  spells_value (boolean true) n h = spells_low _ refl
  spells_value (boolean false) n h = spells_low _ refl
  spells_value (number x) n h = spells_number x h
  spells_value (string s) n h = spells_quoted s h
  spells_value (array ds) n h = low_and 91 (omega arith) (spells_items ds n h)
  spells_value (object ms) n h = low_and 123 (omega arith) (spells_members ms n h)

  -- the items of a list and its end
  spells_items : (ds : Items) (n : ℕ) → AreSayable ds → Spells (items_layout n (spelled_items ds)) (items_layout n ds)
  spells_items no_items n h = spells_low _ refl
  spells_items (item d ds) n h = joined (spells_line (suc n)) (joined (spells_value d (suc n) h.0) (spells_more ds n h.1))

  -- the items behind the first
  spells_more : (ds : Items) (n : ℕ) → AreSayable ds → Spells (more_items n (spelled_items ds)) (more_items n ds)
  spells_more no_items n h = joined (spells_line n) (spells_low (93 ∷ []) refl)
  spells_more (item d ds) n h = low_and 44 (omega arith) (joined (spells_line (suc n)) (joined (spells_value d (suc n) h.0) (spells_more ds n h.1)))

  -- the members of an object and its end
  spells_members : (ms : Members) (n : ℕ) → AreSayableMembers ms → Spells (members_layout n (spelled_members ms)) (members_layout n ms)
  spells_members no_members n h = spells_low _ refl
  spells_members (member k d ms) n h =
      joined (spells_line (suc n)) (joined (spells_quoted k h.0)
      (low_and 58 (omega arith) (low_and 32 (omega arith) (joined (spells_value d (suc n) h.1) (spells_more_members ms n h.2)))))

  -- the members behind the first
  spells_more_members : (ms : Members) (n : ℕ) → AreSayableMembers ms → Spells (more_members n (spelled_members ms)) (more_members n ms)
  spells_more_members no_members n h = joined (spells_line n) (spells_low (125 ∷ []) refl)
  spells_more_members (member k d ms) n h =
      low_and 44 (omega arith) (joined (spells_line (suc n)) (joined (spells_quoted k h.0)
      (low_and 58 (omega arith) (low_and 32 (omega arith) (joined (spells_value d (suc n) h.1) (spells_more_members ms n h.2))))))

-- the whole text
pub spells_text : (d : Data) → IsSayable d → Spells (layout_text (spelled d)) (layout_text d)
spells_text d h = joined (spells_value d 0 h) (spells_low (10 ∷ []) refl)
