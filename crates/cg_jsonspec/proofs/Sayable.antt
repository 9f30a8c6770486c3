-- Documents of scalars are sayable.
use Rattle.std.proofs.Common.{ℕ, List}
use Rattle.std.specs.Prelude.{IsUtf8, chars}
use Rattle.std.proofs.lemmas.Str.{scalars-chars}
use Rattle.cg_docspec.specs.Place.{Place}
use Rattle.cg_docspec.specs.Tree.{Tree, trees, members, Member}
use Rattle.cg_docspec.specs.Document.{Object, object, Value, object_value, list_value, leaf_value, ValueRun, no_value, one_value, MemberRun, no_member, one_member, Document, document}
use Rattle.cg_jsonspec.specs.Said.{IsSayableTree, IsSayableKind, AreSayableTrees, AreSayableTreeMembers}
use Rattle.cg_jsonspec.proofs.SayableGaps.{AreScalars, rest, gap_scalars, comma_scalars}
use Rattle.cg_jsonspec.proofs.SayableStrings.{key_string}
use Rattle.cg_jsonspec.proofs.SayableLeaves.{leaf_said}

mutual
  unfolding IsSayableTree IsSayableKind AreSayableTrees AreSayableTreeMembers

  -- an object, and the text behind it
  object_said : {at at' : Place} {s r : List ℕ} {t : Tree} → Object at s t at' r → AreScalars s → IsSayableTree t × AreScalars r
  object_said (object {at} {at1} {at2} {c} {d} {s} {s1} {s2} {ms} e g m f) h =
      let more = members_said m (gap_scalars g (rest c s h)) in
      (more.0, rest d s2 more.1)

  -- a value
  value_said : {at at' : Place} {s r : List ℕ} {t : Tree} → Value at s t at' r → AreScalars s → IsSayableTree t × AreScalars r
  value_said (object_value o) h = object_said o h
  value_said (list_value {at} {at1} {at2} {c} {d} {s} {s1} {s2} {ts} e g v f) h =
      let more = values_said v (gap_scalars g (rest c s h)) in
      (more.0, rest d s2 more.1)
  value_said (leaf_value l) h = leaf_said l h

  -- the values of a list
  values_said : {at at' : Place} {s r : List ℕ} {ts : List Tree} → ValueRun at s ts at' r → AreScalars s → AreSayableTrees (trees ts) × AreScalars r
  values_said no_value h = (tt, h)
  values_said (one_value v g c vs) h =
      let first = value_said v h in
      let others = values_said vs (comma_scalars c (gap_scalars g first.1)) in
      ((first.0, others.0), others.1)

  -- the members of an object
  members_said : {at at' : Place} {s r : List ℕ} {ms : List Member} → MemberRun at s ms at' r → AreScalars s → AreSayableTreeMembers (members ms) × AreScalars r
  members_said no_member h = (tt, h)
  members_said (one_member {at} {at1} {at2} {at3} {at4} {at5} {at6} {at'} {d} {s} {k} {s1} {s2} key g e g2 v g3 c rest_run) h =
      let name = key_string key h in
      let first = value_said v (gap_scalars g2 (rest d s2 (gap_scalars g name.1))) in
      let others = members_said rest_run (comma_scalars c (gap_scalars g3 first.1)) in
      ((name.0, first.0, others.0), others.1)

-- the tree of a text that is UTF-8
pub documents_said : (bytes : List ℕ) (t : Tree) → IsUtf8 bytes → Document (chars bytes) t → IsSayableTree t
documents_said bytes t utf8 (document g o g2) = (object_said o (gap_scalars g (scalars-chars bytes utf8))).0
