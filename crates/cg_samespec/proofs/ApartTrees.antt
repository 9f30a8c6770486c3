-- Parts of a document stand one behind another.
use Rattle.std.proofs.Common.{ℕ, ◌<◌, ◌≤◌, List, arith}
use Rattle.cg_docspec.specs.Place.{Place, next_place}
use Rattle.cg_docspec.specs.Tree.{Tree, tree, Kind, null, boolean, integer, string, array, object, Trees, no_trees, tree_and, Members, no_members, member_and, Member, trees, members}
use Rattle.cg_docspec.specs.Document as grammar
use Rattle.cg_docspec.specs.Document.{Leaf, quoted, lines, literal, unquoted, Object, Value, object_value, list_value, leaf_value, ValueRun, no_value, one_value, MemberRun, no_member, one_member, Document, document}
use Rattle.cg_docspec.specs.Literal.{Literal, true_literal, false_literal, null_literal, integer_literal, other_number}
use Rattle.cg_samespec.proofs.ApartGrowth.{comma_grows, from_place, gap_grows, key_grows, leaf_rises, steps_up}

-- ---- where a tree stands

unfoldable mutual
  -- the tree and its parts stand from one byte on and below another; parts of a list stand one behind another
  pub StandsIn : ℕ → ℕ → Tree → Type 0
  StandsIn low high (tree kind at) = (low ≤ at.byte) × (at.byte < high) × PartsIn low high kind

  -- so do the parts of this kind
  pub PartsIn : ℕ → ℕ → Kind → Type 0
  PartsIn low high null = Unit {0}
  PartsIn low high (boolean b) = Unit {0}
  PartsIn low high (integer n) = Unit {0}
  PartsIn low high (string u) = Unit {0}
  PartsIn low high (array ts) = TreesIn low high ts
  PartsIn low high (object ms) = MembersIn low high ms

  -- the values of a list: each ends before the next begins
  pub TreesIn : ℕ → ℕ → Trees → Type 0
  TreesIn low high no_trees = low ≤ high
  TreesIn low high (tree_and t ts) = (middle : ℕ) × StandsIn low middle t × TreesIn middle high ts

  -- the values of an object's members: each ends before the next begins
  pub MembersIn : ℕ → ℕ → Members → Type 0
  MembersIn low high no_members = low ≤ high
  MembersIn low high (member_and key key_place t ms) = (middle : ℕ) × StandsIn low middle t × MembersIn middle high ms

-- ---- within wider bounds

mutual
  unfolding StandsIn PartsIn TreesIn MembersIn

  pub wider : (t : Tree) (low high lower higher : ℕ) → lower ≤ low → high ≤ higher → StandsIn low high t → StandsIn lower higher t
  wider (tree kind at) low high lower higher p q h =
      (omega (arith, p, h.0), omega (arith, q, h.1), wider_kind kind low high lower higher p q h.2)

  wider_kind : (k : Kind) (low high lower higher : ℕ) → lower ≤ low → high ≤ higher → PartsIn low high k → PartsIn lower higher k
  wider_kind null low high lower higher p q h = tt
  wider_kind (boolean b) low high lower higher p q h = tt
  wider_kind (integer n) low high lower higher p q h = tt
  wider_kind (string u) low high lower higher p q h = tt
  wider_kind (array ts) low high lower higher p q h = wider_trees ts low high lower higher p q h
  wider_kind (object ms) low high lower higher p q h = wider_members ms low high lower higher p q h

  wider_trees : (ts : Trees) (low high lower higher : ℕ) → lower ≤ low → high ≤ higher → TreesIn low high ts → TreesIn lower higher ts
  wider_trees no_trees low high lower higher p q h = omega (arith, p, q, h)
  wider_trees (tree_and t ts) low high lower higher p q h =
      (h.0, wider t low h.0 lower h.0 p (omega arith) h.1, wider_trees ts h.0 high h.0 higher (omega arith) q h.2)

  wider_members : (ms : Members) (low high lower higher : ℕ) → lower ≤ low → high ≤ higher → MembersIn low high ms → MembersIn lower higher ms
  wider_members no_members low high lower higher p q h = omega (arith, p, q, h)
  wider_members (member_and key key_place t ms) low high lower higher p q h =
      (h.0, wider t low h.0 lower h.0 p (omega arith) h.1, wider_members ms h.0 high h.0 higher (omega arith) q h.2)

-- ---- what is read stands so

literal_parts : {u : List ℕ} {k : Kind} (low high : ℕ) → Literal u k → PartsIn low high k
unfolding PartsIn
literal_parts low high (true_literal e) = tt
literal_parts low high (false_literal e) = tt
literal_parts low high (null_literal e) = tt
literal_parts low high (integer_literal i) = tt
literal_parts low high (other_number n e) = tt

leaf_parts : {at at' : Place} {s r : List ℕ} {k : Kind} (low high : ℕ) → Leaf at s k at' r → PartsIn low high k
unfolding PartsIn
leaf_parts low high (quoted e f q) = tt
leaf_parts low high (lines ec ed ee l) = tt
leaf_parts low high (literal u r l e) = literal_parts low high l
leaf_parts low high (unquoted none e f g l) = tt

mutual
  unfolding StandsIn PartsIn TreesIn MembersIn

  object_stands : {at at' : Place} {s r : List ℕ} {t : Tree} → Object at s t at' r → StandsIn at.byte at'.byte t × (at.byte < at'.byte)
  object_stands (grammar.object {at} {at1} {at2} {c} {d} {s} {s1} {s2} {ms} e g m f) =
      let inner = members_stand m in
      let first : at.byte ≤ at1.byte = from_place at c at1.byte (gap_grows g) in
      let last : at2.byte < (next_place at2 d).byte = steps_up at2 d in
      let rises : at.byte < (next_place at2 d).byte = omega (arith, first, inner.1, last) in
      ((omega arith, rises, wider_members (members ms) at1.byte at2.byte at.byte (next_place at2 d).byte first (omega (arith, last)) inner.0), rises)

  value_stands : {at at' : Place} {s r : List ℕ} {t : Tree} → Value at s t at' r → StandsIn at.byte at'.byte t × (at.byte < at'.byte)
  value_stands (object_value o) = object_stands o
  value_stands (list_value {at} {at1} {at2} {c} {d} {s} {s1} {s2} {ts} e g v f) =
      let inner = values_stand v in
      let first : at.byte ≤ at1.byte = from_place at c at1.byte (gap_grows g) in
      let last : at2.byte < (next_place at2 d).byte = steps_up at2 d in
      let rises : at.byte < (next_place at2 d).byte = omega (arith, first, inner.1, last) in
      ((omega arith, rises, wider_trees (trees ts) at1.byte at2.byte at.byte (next_place at2 d).byte first (omega (arith, last)) inner.0), rises)
  value_stands (leaf_value {at} {at'} l) = let rises = leaf_rises l in ((omega arith, rises, leaf_parts at.byte at'.byte l), rises)

  values_stand : {at at' : Place} {s r : List ℕ} {ts : List Tree} → ValueRun at s ts at' r → TreesIn at.byte at'.byte (trees ts) × (at.byte ≤ at'.byte)
  values_stand no_value = (omega arith, omega arith)
  values_stand (one_value {at} {at1} {at2} {at3} {at'} {s} {s1} {s2} {s3} {r} {t} {ts} v g c vs) =
      let first = value_stands v in
      let others = values_stand vs in
      let between : at1.byte ≤ at3.byte = omega (arith, gap_grows g, comma_grows c) in
      ((at1.byte, first.0, wider_trees (trees ts) at3.byte at'.byte at1.byte at'.byte between (omega arith) others.0), omega (arith, first.1, between, others.1))

  members_stand : {at at' : Place} {s r : List ℕ} {ms : List Member} → MemberRun at s ms at' r → MembersIn at.byte at'.byte (members ms) × (at.byte ≤ at'.byte)
  members_stand no_member = (omega arith, omega arith)
  members_stand (one_member {at} {at1} {at2} {at3} {at4} {at5} {at6} {at'} {d} {s} {k} {s1} {s2} {s3} {s4} {s5} {s6} {r} {t} {ms} key g e g2 v g3 c run) =
      let first = value_stands v in
      let others = members_stand run in
      let before : at.byte ≤ at3.byte = omega (arith, key_grows key, gap_grows g, from_place at2 d at3.byte (gap_grows g2)) in
      let between : at4.byte ≤ at6.byte = omega (arith, gap_grows g3, comma_grows c) in (
        (
          at4.byte,
          wider t at3.byte at4.byte at.byte at4.byte before (omega arith) first.0,
          wider_members (members ms) at6.byte at'.byte at4.byte at'.byte between (omega arith) others.0,
        ),
        omega (arith, before, first.1, between, others.1),
      )

-- a tree that stands between some bytes
pub record Stands (t : Tree) : Type 0 where
  pub low : ℕ
  pub high : ℕ
  pub within : StandsIn low high t

-- the tree of a document stands so
pub document_stands : {text : List ℕ} {t : Tree} → Document text t → Stands t
document_stands (document {at1} {at2} {at3} g o g2) = record { low = at1.byte; high = at2.byte; within = (object_stands o).0 }
