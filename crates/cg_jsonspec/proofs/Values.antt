-- The text of a value is a value by the grammar of documents, and its tree is what the value says.
use Rattle.std.proofs.Common.{◌≡◌, ℕ, zero, suc, ◌*◌, true, false, List, [], ◌∷◌, ◌++◌, refl, ap, ap₂, subst, append_assoc, IsUtf8}
use Rattle.std.specs.Prelude.{pos, negsuc, replicate, decimal, codes}
use Rattle.std.specs.Str.{chars}
use Rattle.std.specs.Fmt.{signed_decimal}
use Rattle.std.proofs.lemmas.Str.{encodes-chars}
use Rattle.json.specs.Print.{escape, quoted}
use Rattle.serde_json.specs.Data.{Num, unsigned, negative, float, Data, Items, Members, null, boolean, number, string, array, object, no_items, item, no_members, member}
use Rattle.serde_json.specs.Written.{number_text}
use Rattle.cg_docspec.specs.Place.{Place, origin, next_place, place_after}
use Rattle.cg_docspec.specs.Tree as document
use Rattle.cg_docspec.specs.Tree.{Tree, tree, Kind, Member, trees, members, list_of, object_of}
use Rattle.cg_docspec.specs.Gap.{Gap, no_gap, blank}
use Rattle.cg_docspec.specs.Quoted.{Quoted}
use Rattle.cg_docspec.specs.Literal.{Literal, true_literal, false_literal, null_literal, may_follow}
use Rattle.cg_docspec.specs.Document as grammar
use Rattle.cg_docspec.specs.Document.{Leaf, Key, quoted_key, no_comma, one_comma, Object, Value, object_value, list_value, leaf_value, ValueRun, no_value, one_value, MemberRun, no_member, one_member}
use Rattle.cg_jsonspec.specs.Said.{unplaced, unplaced_kind, unplaced_trees, unplaced_members, said_kind, said_items, said_members, said, IsIntegerOfDocuments, IsSayable, AreSayable, AreSayableMembers}
use Rattle.cg_jsonspec.specs.Layout.{line, layout, items_layout, more_items, members_layout, more_members}
use Rattle.cg_jsonspec.proofs.Numbers.{from_zero_literal, below_zero_literal}
use Rattle.cg_jsonspec.proofs.Escapes.{quoted_reads}
use Rattle.cg_jsonspec.proofs.Characters.{spelled, spelled_items, spelled_members}

-- ---- what is read

-- a value that says this one
record ReadsValue (d : Data) (at : Place) (s r : List ℕ) : Type 0 where
  root : Tree
  behind : Place
  value : Value at s root behind r
  same : unplaced root ≡ said d

-- values that say these items
record ReadsItems (ds : Items) (at : Place) (s r : List ℕ) : Type 0 where
  found : List Tree
  behind : Place
  run : ValueRun at s found behind r
  same : unplaced_trees (trees found) ≡ said_items ds

-- members that say these
record ReadsMembers (ms : Members) (at : Place) (s r : List ℕ) : Type 0 where
  found : List Member
  behind : Place
  run : MemberRun at s found behind r
  same : unplaced_members (members found) ≡ said_members ms

-- an object that says these members
pub record ReadsObject (ms : Members) (at : Place) (s r : List ℕ) : Type 0 where
  pub root : Tree
  pub behind : Place
  pub value : Object at s root behind r
  pub same : unplaced root ≡ said (object ms)

-- ---- gaps

abbrev ReadsGap : Place → List ℕ → List ℕ → Type 0
ReadsGap at s r = (behind : Place) × Gap at s behind r

-- spaces are a gap
spaces : (n : ℕ) (r : List ℕ) (at : Place) → ReadsGap at (replicate n 32 ++ r) r
spaces zero r at = (at, no_gap)
spaces (suc n) r at = let more = spaces n r (next_place at 32) in (more.0, blank refl more.1)

-- so is a new line
line_gap : (n : ℕ) (r : List ℕ) (at : Place) → ReadsGap at (line n ++ r) r
line_gap n r at = let more = spaces (2 * n) r (next_place at 10) in (more.0, blank refl more.1)

-- ---- values without parts

-- a value without parts
leaf : (d : Data) (at : Place) (s r : List ℕ) (k : Kind) (behind : Place) → Leaf at s k behind r → unplaced_kind k ≡ said_kind d → ReadsValue d at s r
unfolding unplaced
leaf d at s r k behind l e = record { root = tree k at; behind = behind; value = leaf_value l; same = ap (λ x. tree x origin) e }

-- a literal
literal : (d : Data) (at : Place) (u r : List ℕ) (k : Kind) → Literal u k → may_follow r ≡ true → unplaced_kind k ≡ said_kind d → ReadsValue d at (u ++ r) r
literal d at u r k l f e = leaf d at (u ++ r) r k (place_after at u) (grammar.literal u r l f) e

-- an integer
a_number : (x : Num) (at : Place) (r : List ℕ) → IsIntegerOfDocuments x → may_follow r ≡ true → ReadsValue (number x) at (number_text x ++ r) r
unfolding unplaced_kind said_kind
a_number (unsigned n) at r h f = literal (number (unsigned n)) at (decimal n) r (document.integer (pos n)) (from_zero_literal n h) f refl
a_number (negative (pos n)) at r h f = absurd h
a_number (negative (negsuc n)) at r h f =
    literal (number (negative (negsuc n))) at (signed_decimal (negsuc n)) r (document.integer (negsuc n)) (below_zero_literal n h) f refl
a_number (float x) at r h f = absurd h

-- a string between its quotes
quoted_string : (s r : List ℕ) (at : Place) → IsUtf8 s → (behind : Place) × Quoted 34 at ((escape (chars s) ++ 34 ∷ []) ++ r) s behind r
quoted_string s r at u =
    let reads = quoted_reads (chars s) r at in
    (reads.0, subst (λ b. Quoted 34 at ((escape (chars s) ++ 34 ∷ []) ++ r) b reads.0 r) (encodes-chars s u) reads.1)

-- a string
a_string : (s r : List ℕ) (at : Place) → IsUtf8 s → ReadsValue (string s) at (quoted (chars s) ++ r) r
unfolding unplaced_kind said_kind
a_string s r at u =
    let reads = quoted_string s r (next_place at 34) u in
    leaf (string s) at (quoted (chars s) ++ r) r (document.string s) reads.0 (grammar.quoted refl refl reads.1) refl

-- a key
a_key : (s r : List ℕ) (at : Place) → IsUtf8 s → (behind : Place) × Key at (quoted (chars s) ++ r) s behind r
a_key s r at u = let reads = quoted_string s r (next_place at 34) u in (reads.0, quoted_key refl reads.1)

-- ---- lists and objects from their parts

-- a list
a_list : (ds : Items) (at : Place) (s s1 r : List ℕ) → (gap : ReadsGap (next_place at 91) s s1) → ReadsItems ds gap.0 s1 (93 ∷ r) → ReadsValue (array ds) at (91 ∷ s) r
unfolding unplaced unplaced_kind said_kind
a_list ds at s s1 r gap is = record {
  root = list_of is.found at;
  behind = next_place is.behind 93;
  value = list_value refl gap.1 is.run refl;
  same = ap (λ x. tree (document.array x) origin) is.same;
}

-- an object
an_object : (ms : Members) (at : Place) (s s1 r : List ℕ) → (gap : ReadsGap (next_place at 123) s s1) → ReadsMembers ms gap.0 s1 (125 ∷ r) → ReadsObject ms at (123 ∷ s) r
unfolding unplaced unplaced_kind said_kind
an_object ms at s s1 r gap is = record {
  root = object_of is.found at;
  behind = next_place is.behind 125;
  value = grammar.object refl gap.1 is.run refl;
  same = ap (λ x. tree (document.object x) origin) is.same;
}

-- ---- items and members one by one

-- no items
no_items_left : (at : Place) (r : List ℕ) → ReadsItems no_items at r r
unfolding unplaced_trees said_items
no_items_left at r = record { found = []; behind = at; run = no_value; same = refl }

-- no members
no_members_left : (at : Place) (r : List ℕ) → ReadsMembers no_members at r r
unfolding unplaced_members said_members
no_members_left at r = record { found = []; behind = at; run = no_member; same = refl }

-- the last item
last_item : (d : Data) (at : Place) (s r r1 : List ℕ) → ReadsValue d at s r → ((at : Place) → ReadsGap at r r1) → ReadsItems (item d no_items) at s r1
unfolding unplaced_trees said_items
last_item d at s r r1 v gap = record {
  found = v.root ∷ [];
  behind = (gap v.behind).0;
  run = one_value v.value (gap v.behind).1 no_comma no_value;
  same = ap (λ x. document.tree_and x document.no_trees) v.same;
}

-- an item before others
next_item : (d : Data) (ds : Items) (at : Place) (s r r1 r2 : List ℕ) → ReadsValue d at s (44 ∷ r) → ((at : Place) → ReadsGap at r r1)
    → ((at : Place) → ReadsItems ds at r1 r2) → ReadsItems (item d ds) at s r2
unfolding unplaced_trees said_items
next_item d ds at s r r1 r2 v gap more =
    let between = gap (next_place v.behind 44) in
    let rest = more between.0 in
    record {
      found = v.root ∷ rest.found;
      behind = rest.behind;
      run = one_value v.value no_gap (one_comma refl between.1) rest.run;
      same = ap₂ document.tree_and v.same rest.same;
    }

-- the last member
last_member : (k : List ℕ) (d : Data) (at : Place) (s r r1 : List ℕ) → IsUtf8 k → ((at : Place) → ReadsValue d at s r) → ((at : Place) → ReadsGap at r r1)
    → ReadsMembers (member k d no_members) at (quoted (chars k) ++ (58 ∷ 32 ∷ s)) r1
unfolding unplaced_members said_members
last_member k d at s r r1 u value gap =
    let key = a_key k (58 ∷ 32 ∷ s) at u in
    let v = value (next_place (next_place key.0 58) 32) in
    record {
      found = record { key = k; key_place = at; value = v.root } ∷ [];
      behind = (gap v.behind).0;
      run = one_member key.1 no_gap refl (blank refl no_gap) v.value (gap v.behind).1 no_comma no_member;
      same = ap (λ x. document.member_and k origin x document.no_members) v.same;
    }

-- a member before others
next_member : (k : List ℕ) (d : Data) (ms : Members) (at : Place) (s r r1 r2 : List ℕ) → IsUtf8 k → ((at : Place) → ReadsValue d at s (44 ∷ r))
    → ((at : Place) → ReadsGap at r r1) → ((at : Place) → ReadsMembers ms at r1 r2)
    → ReadsMembers (member k d ms) at (quoted (chars k) ++ (58 ∷ 32 ∷ s)) r2
unfolding unplaced_members said_members
next_member k d ms at s r r1 r2 u value gap more =
    let key = a_key k (58 ∷ 32 ∷ s) at u in
    let v = value (next_place (next_place key.0 58) 32) in
    let between = gap (next_place v.behind 44) in
    let rest = more between.0 in
    record {
      found = record { key = k; key_place = at; value = v.root } ∷ rest.found;
      behind = rest.behind;
      run = one_member key.1 no_gap refl (blank refl no_gap) v.value no_gap (one_comma refl between.1) rest.run;
      same = ap₂ (document.member_and k origin) v.same rest.same;
    }

-- ---- the layout

-- a value stands before any text that may follow it
abbrev Before : Data → List ℕ → Type 0
Before d s = (r : List ℕ) → may_follow r ≡ true → (at : Place) → ReadsValue d at (s ++ r) r

-- a line, a key, its colon, a value, the members behind it, and a rest
regrouped : (a b c d e : List ℕ) → (a ++ (b ++ (58 ∷ 32 ∷ (c ++ d)))) ++ e ≡ a ++ (b ++ (58 ∷ 32 ∷ (c ++ (d ++ e))))
regrouped a b c d e = simp append_assoc

mutual
  unfolding layout items_layout more_items members_layout more_members spelled spelled_items spelled_members IsSayable AreSayable AreSayableMembers unplaced_kind said_kind

  -- a value's layout, by its characters
  reads : (d : Data) (n : ℕ) → IsSayable d → Before d (layout n (spelled d))
  reads null n h r f at = literal null at (codes "null") r document.null (null_literal refl) f refl
  reads (boolean true) n h r f at = literal (boolean true) at (codes "true") r (document.boolean true) (true_literal refl) f refl
  reads (boolean false) n h r f at = literal (boolean false) at (codes "false") r (document.boolean false) (false_literal refl) f refl
  reads (number x) n h r f at = a_number x at r h f
  reads (string s) n h r f at = a_string s r at h
  reads (array ds) n h r f at = reads_items ds n h r at
  reads (object ms) n h r f at =
      let is = reads_members ms n h r at in
      record { root = is.root; behind = is.behind; value = object_value is.value; same = is.same }

  -- the items of a list and its end
  reads_items : (ds : Items) (n : ℕ) → AreSayable ds → (r : List ℕ) (at : Place) → ReadsValue (array ds) at (91 ∷ (items_layout n (spelled_items ds) ++ r)) r
  reads_items no_items n h r at = a_list no_items at (93 ∷ r) (93 ∷ r) r (next_place at 91, no_gap) (no_items_left (next_place at 91) (93 ∷ r))
  reads_items (item d ds) n h r at =
      rw (append_assoc (line (suc n)) (layout (suc n) (spelled d) ++ more_items n (spelled_items ds)) r, append_assoc (layout (suc n) (spelled d)) (more_items n (spelled_items ds)) r)
      (a_list (item d ds) at _ _ r (line_gap (suc n) _ (next_place at 91)) (reads_more ds d n (λ q f. reads d (suc n) h.0 q f) h.1 r _))

  -- the items with the first
  reads_more : (ds : Items) (d : Data) (n : ℕ) → Before d (layout (suc n) (spelled d)) → AreSayable ds → (r : List ℕ) (at : Place)
      → ReadsItems (item d ds) at (layout (suc n) (spelled d) ++ (more_items n (spelled_items ds) ++ r)) (93 ∷ r)
  reads_more no_items d n first h r at = rw (append_assoc (line n) (93 ∷ []) r) (last_item d at _ _ _ (first (line n ++ 93 ∷ r) refl at) (line_gap n (93 ∷ r)))
  reads_more (item e ds) d n first h r at =
      rw (append_assoc (line (suc n)) (layout (suc n) (spelled e) ++ more_items n (spelled_items ds)) r, append_assoc (layout (suc n) (spelled e)) (more_items n (spelled_items ds)) r)
      (next_item d (item e ds) at _ _ _ _ (first _ refl at) (line_gap (suc n) _) (reads_more ds e n (λ q f. reads e (suc n) h.0 q f) h.1 r))

  -- the members of an object and its end
  pub reads_members : (ms : Members) (n : ℕ) → AreSayableMembers ms → (r : List ℕ) (at : Place)
      → ReadsObject ms at (123 ∷ (members_layout n (spelled_members ms) ++ r)) r
  reads_members no_members n h r at = an_object no_members at (125 ∷ r) (125 ∷ r) r (next_place at 123, no_gap) (no_members_left (next_place at 123) (125 ∷ r))
  reads_members (member k d ms) n h r at =
      rw (regrouped (line (suc n)) (quoted (chars k)) (layout (suc n) (spelled d)) (more_members n (spelled_members ms)) r)
      (an_object (member k d ms) at _ _ r (line_gap (suc n) _ (next_place at 123)) (reads_more_members ms k d n h.0 (λ q f. reads d (suc n) h.1 q f) h.2 r _))

  -- the members with the first
  reads_more_members : (ms : Members) (k : List ℕ) (d : Data) (n : ℕ) → IsUtf8 k → Before d (layout (suc n) (spelled d)) → AreSayableMembers ms → (r : List ℕ) (at : Place)
      → ReadsMembers (member k d ms) at (quoted (chars k) ++ (58 ∷ 32 ∷ (layout (suc n) (spelled d) ++ (more_members n (spelled_members ms) ++ r)))) (125 ∷ r)
  reads_more_members no_members k d n u first h r at =
      rw (append_assoc (line n) (125 ∷ []) r) (last_member k d at _ _ _ u (first (line n ++ 125 ∷ r) refl) (line_gap n (125 ∷ r)))
  reads_more_members (member l e ms) k d n u first h r at =
      rw (regrouped (line (suc n)) (quoted (chars l)) (layout (suc n) (spelled e)) (more_members n (spelled_members ms)) r)
      (next_member k d (member l e ms) at _ _ _ _ u (first _ refl) (line_gap (suc n) _) (reads_more_members ms l e n h.0 (λ q f. reads e (suc n) h.1 q f) h.2 r))
