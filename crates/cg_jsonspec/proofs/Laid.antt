-- The layout of a value's tokens is the layout by cases.
use Rattle.std.proofs.Common.{◌≡◌, ℕ, suc, ◌+◌, ◌-◌, ◌<◌, ◌^◌, min, List, [], ◌∷◌, ◌++◌, true, false, ◌∙◌, ap, sym, refl, arith, append_assoc}
use Rattle.std.proofs.lemmas.List.{append-nil}
use Rattle.json.specs.Layout.{Last, nothing, bracket, name, value, after, pretty_from, pretty}
use Rattle.json.specs.Token.{Token}
use Rattle.json.specs.Tree.{json_tokens, items_tokens, members_tokens}
use Rattle.json.specs.Print.{quoted, begins, token_text}
use Rattle.serde_json.specs.Data.{Data, Items, Members, null, boolean, number, string, array, object, no_items, item, no_members, member, depth, items_depth, members_depth}
use Rattle.serde_json.specs.Written.{number_text, outline, items_outline, members_outline}
use Rattle.cg_jsonspec.specs.Layout.{line, layout, items_layout, more_items, members_layout, more_members}

-- ---- one token

-- what stands before a value or a key, by what was written last
abbrev lead : Last → ℕ → List ℕ
lead nothing n = []
lead bracket n = line n
lead name n = 32 ∷ []
lead value n = 44 ∷ line n

-- a bracket leads one level down, within the range of depths
deeper : (n : ℕ) → n + 1 < 2 ^ 64 → min (n + 1) (2 ^ 64 - 1) ≡ suc n
deeper n h = omega arith

-- a token that begins a value or a member
begun : (last : Last) (n : ℕ) (t : Token) (next : Last × ℕ) (ts : List Token) → begins t ≡ true → after t n ≡ next
    → pretty_from (last, n) (t ∷ ts) ≡ lead last n ++ (token_text t ++ pretty_from next ts)
unfolding pretty_from
begun nothing n t next ts b a = rw (b, a) refl
begun bracket n t next ts b a = rw (b, a) (append_assoc (line n) (token_text t) _)
begun name n t next ts b a = rw (b, a) refl
begun value n t next ts b a = rw (b, a) (ap (λ (l : List ℕ). 44 ∷ l) (append_assoc (line n) (token_text t) _))

-- a closing bracket right behind its opening one
closed_empty : (n : ℕ) (t : Token) (ts : List Token) → begins t ≡ false → after t n ≡ (value, n)
    → pretty_from (bracket, suc n) (t ∷ ts) ≡ token_text t ++ pretty_from (value, n) ts
unfolding pretty_from
closed_empty n t ts b a = let one : suc n - 1 ≡ n = omega arith in rw (b, one, a) refl

-- a closing bracket behind a value
closed : (n : ℕ) (t : Token) (ts : List Token) → begins t ≡ false → after t n ≡ (value, n)
    → pretty_from (value, suc n) (t ∷ ts) ≡ line n ++ (token_text t ++ pretty_from (value, n) ts)
unfolding pretty_from
closed n t ts b a = let one : suc n - 1 ≡ n = omega arith in rw (b, one, a) (append_assoc (line n) (token_text t) _)

-- ---- pieces in groups

-- three pieces and a rest
three : (a b c d : List ℕ) → a ++ (b ++ (c ++ d)) ≡ (a ++ (b ++ c)) ++ d
three a b c d = simp append_assoc

-- a line, a key, its colon, a value, the members behind it, and a rest
colon : (a b c d e : List ℕ) → a ++ ((b ++ 58 ∷ []) ++ (32 ∷ (c ++ (d ++ e)))) ≡ (a ++ (b ++ (58 ∷ 32 ∷ (c ++ d)))) ++ e
colon a b c d e = simp append_assoc

-- what stands behind a key and its colon
member_rest : (d : Data) (ms : Members) (n : ℕ) (ts : List Token)
    → pretty_from (name, suc n) (json_tokens (outline d) ++ (members_tokens (members_outline ms) ++ ts))
    ≡ 32 ∷ (layout (suc n) d ++ pretty_from (value, suc n) (members_tokens (members_outline ms) ++ ts))
    → pretty_from (value, suc n) (members_tokens (members_outline ms) ++ ts) ≡ more_members n ms ++ pretty_from (value, n) ts
    → pretty_from (name, suc n) ((json_tokens (outline d) ++ members_tokens (members_outline ms)) ++ ts)
    ≡ 32 ∷ (layout (suc n) d ++ (more_members n ms ++ pretty_from (value, n) ts))
member_rest d ms n ts here more =
    ap (pretty_from (name, suc n)) (append_assoc (json_tokens (outline d)) (members_tokens (members_outline ms)) ts)
    ∙ (here ∙ ap (λ (l : List ℕ). 32 ∷ (layout (suc n) d ++ l)) more)

-- ---- values

mutual
  unfolding layout items_layout more_items members_layout more_members

  -- a value, wherever it stands
  laid : (d : Data) (last : Last) (n : ℕ) (ts : List Token) → n + depth d < 2 ^ 64
      → pretty_from (last, n) (json_tokens (outline d) ++ ts) ≡ lead last n ++ (layout n d ++ pretty_from (value, n) ts)
  laid null last n ts h = begun last n Token.null (value, n) ts refl refl
  laid (boolean true) last n ts h = begun last n (Token.boolean true) (value, n) ts refl refl
  laid (boolean false) last n ts h = begun last n (Token.boolean false) (value, n) ts refl refl
  laid (number x) last n ts h = begun last n (Token.number (number_text x)) (value, n) ts refl refl
  laid (string s) last n ts h = begun last n (Token.string s) (value, n) ts refl refl
  laid (array ds) last n ts h =
      begun last n Token.begin_array (bracket, suc n) (items_tokens (items_outline ds) ++ ts) refl (ap (λ (m : ℕ). (bracket, m)) (deeper n (omega arith)))
      ∙ ap (λ (l : List ℕ). lead last n ++ 91 ∷ l) (items_laid ds n ts (omega arith))
  laid (object ms) last n ts h =
      begun last n Token.begin_object (bracket, suc n) (members_tokens (members_outline ms) ++ ts) refl (ap (λ (m : ℕ). (bracket, m)) (deeper n (omega arith)))
      ∙ ap (λ (l : List ℕ). lead last n ++ 123 ∷ l) (members_laid ms n ts (omega arith))

  -- the items of a list and its end
  items_laid : (ds : Items) (n : ℕ) (ts : List Token) → n + suc (items_depth ds) < 2 ^ 64
      → pretty_from (bracket, suc n) (items_tokens (items_outline ds) ++ ts) ≡ items_layout n ds ++ pretty_from (value, n) ts
  items_laid no_items n ts h = closed_empty n Token.end_array ts refl refl
  items_laid (item d ds) n ts h =
      ap (pretty_from (bracket, suc n)) (append_assoc (json_tokens (outline d)) (items_tokens (items_outline ds)) ts)
      ∙ (laid d bracket (suc n) (items_tokens (items_outline ds) ++ ts) (omega arith)
      ∙ (ap (λ (l : List ℕ). line (suc n) ++ (layout (suc n) d ++ l)) (more_laid ds n ts (omega arith))
      ∙ three (line (suc n)) (layout (suc n) d) (more_items n ds) _))

  -- the items behind the first
  more_laid : (ds : Items) (n : ℕ) (ts : List Token) → n + suc (items_depth ds) < 2 ^ 64
      → pretty_from (value, suc n) (items_tokens (items_outline ds) ++ ts) ≡ more_items n ds ++ pretty_from (value, n) ts
  more_laid no_items n ts h = closed n Token.end_array ts refl refl ∙ sym (append_assoc (line n) (93 ∷ []) _)
  more_laid (item d ds) n ts h =
      ap (pretty_from (value, suc n)) (append_assoc (json_tokens (outline d)) (items_tokens (items_outline ds)) ts)
      ∙ (laid d value (suc n) (items_tokens (items_outline ds) ++ ts) (omega arith)
      ∙ (ap (λ (l : List ℕ). 44 ∷ (line (suc n) ++ (layout (suc n) d ++ l))) (more_laid ds n ts (omega arith))
      ∙ ap (λ (l : List ℕ). 44 ∷ l) (three (line (suc n)) (layout (suc n) d) (more_items n ds) _)))

  -- the members of an object and its end
  members_laid : (ms : Members) (n : ℕ) (ts : List Token) → n + suc (members_depth ms) < 2 ^ 64
      → pretty_from (bracket, suc n) (members_tokens (members_outline ms) ++ ts) ≡ members_layout n ms ++ pretty_from (value, n) ts
  members_laid no_members n ts h = closed_empty n Token.end_object ts refl refl
  members_laid (member k d ms) n ts h =
      let here = laid d name (suc n) (members_tokens (members_outline ms) ++ ts) (omega arith) in
      begun bracket (suc n) (Token.key k) (name, suc n) _ refl refl
      ∙ (ap (λ (l : List ℕ). line (suc n) ++ ((quoted k ++ 58 ∷ []) ++ l)) (member_rest d ms n ts here (more_members_laid ms n ts (omega arith)))
      ∙ colon (line (suc n)) (quoted k) (layout (suc n) d) (more_members n ms) _)

  -- the members behind the first
  more_members_laid : (ms : Members) (n : ℕ) (ts : List Token) → n + suc (members_depth ms) < 2 ^ 64
      → pretty_from (value, suc n) (members_tokens (members_outline ms) ++ ts) ≡ more_members n ms ++ pretty_from (value, n) ts
  more_members_laid no_members n ts h = closed n Token.end_object ts refl refl ∙ sym (append_assoc (line n) (125 ∷ []) _)
  more_members_laid (member k d ms) n ts h =
      let here = laid d name (suc n) (members_tokens (members_outline ms) ++ ts) (omega arith) in
      begun value (suc n) (Token.key k) (name, suc n) _ refl refl
      ∙ (ap (λ (l : List ℕ). 44 ∷ (line (suc n) ++ ((quoted k ++ 58 ∷ []) ++ l))) (member_rest d ms n ts here (more_members_laid ms n ts (omega arith)))
      ∙ ap (λ (l : List ℕ). 44 ∷ l) (colon (line (suc n)) (quoted k) (layout (suc n) d) (more_members n ms) _))

-- the whole text of a value
pub pretty_layout : (d : Data) → depth d < 2 ^ 64 → pretty (json_tokens (outline d)) ≡ layout 0 d
unfolding pretty_from
pretty_layout d h = ap pretty (sym (append-nil (json_tokens (outline d)))) ∙ (laid d nothing 0 [] (omega arith) ∙ append-nil (layout 0 d))
