-- What the grammar derives, the machine reads. Values and documents.
use Rattle.std.proofs.Common.{◌≡◌, ℕ, List, [], ◌∷◌, ◌++◌, Some, None, refl, true, false, Bool, ◌∙◌, append_assoc}
use Rattle.std.proofs.lemmas.List.{append-nil}
use Rattle.cg_docspec.specs.Characters.{close_brace, close_bracket, colon, comma, open_brace}
use Rattle.cg_docspec.specs.Place.{Place, next_place, origin}
use Rattle.cg_docspec.specs.Tree.{Member, Tree, list_of, object_of}
use Rattle.cg_docspec.specs.Document.{Comma, Document, MemberRun, Object, Value, ValueRun, document, leaf_value, list_value, no_comma, no_member, no_value, object, object_value, one_comma, one_member, one_value}
use Rattle.cg_docspec.specs.Machine.Awaited.{Awaited}
use Rattle.cg_docspec.specs.Machine.Awaited as awaited
use Rattle.cg_docspec.specs.Machine.Closing.{delivered}
use Rattle.cg_docspec.specs.Machine.Frame.{Frame}
use Rattle.cg_docspec.specs.Machine.Frame as frame
use Rattle.cg_docspec.specs.Machine.Run.{Finds, step}
use Rattle.cg_docspec.specs.Machine.State.{State, start}
use Rattle.cg_docspec.specs.Machine.Token.{begin_item, begin_token, in_gap}
use Rattle.cg_docspec.proofs.Forth.Gaps.{Goes, gap_goes, gap_state, goes_step}
use Rattle.cg_docspec.proofs.Forth.Keys.{key_goes}
use Rattle.cg_docspec.proofs.Forth.Leaves.{Takes, begin_list, begin_object, leaf_goes, takes_list, takes_value}

-- ---- values

-- a list is closed
close_list : (list_at at : Place) (ts : List Tree) (stack : List Frame) (b : Bool) (d : ℕ) → d ≡ close_bracket →
    step at (gap_state (frame.in_list list_at ts ∷ stack) None (awaited.item b)) d ≡ delivered stack (list_of ts list_at)
unfolding step in_gap begin_token begin_item
close_list list_at at ts stack true d h = rw h refl
close_list list_at at ts stack false d h = rw h refl

-- an object is closed
close_object : (object_at at : Place) (ms : List Member) (stack : List Frame) (b : Bool) (d : ℕ) → d ≡ close_brace →
    step at (gap_state (frame.in_object object_at ms ∷ stack) None (awaited.item b)) d ≡ delivered stack (object_of ms object_at)
unfolding step in_gap begin_token begin_item
close_object object_at at ms stack true d h = rw h refl
close_object object_at at ms stack false d h = rw h refl

-- a comma
step_comma : (at : Place) (stack : List Frame) (c : ℕ) → c ≡ comma →
    step at (gap_state stack None (awaited.item true)) c ≡ Some (gap_state stack None (awaited.item false))
unfolding step in_gap begin_token
step_comma at stack c h = rw h refl

-- a colon
step_colon : (at : Place) (stack : List Frame) (c : ℕ) → c ≡ colon →
    step at (gap_state stack None awaited.colon) c ≡ Some (gap_state stack None awaited.value)
unfolding step in_gap begin_token
step_colon at stack c h = rw h refl

-- the document's object opens
step_root : (at : Place) (c : ℕ) → c ≡ open_brace → step at start c ≡ Some (gap_state (frame.in_object at [] ∷ []) None (awaited.item false))
unfolding step in_gap begin_token
step_root at c h = rw h refl

-- a comma or none, and its gap
comma_goes : {at at' : Place} {s r : List ℕ} (stack : List Frame) (t : Tree) → Comma at s at' r →
    ((b : Bool) → Finds at' (gap_state stack None (awaited.item b)) r t) → Finds at (gap_state stack None (awaited.item true)) s t
comma_goes stack t no_comma f = f true
comma_goes stack t (one_comma {at} {at'} {c} {s} {r} h g) f =
    goes_step at (gap_state stack None (awaited.item true)) (gap_state stack None (awaited.item false)) c s (step_comma at stack c h) t (gap_goes stack None (awaited.item false) g t (f false))

-- a value joins its list
deliver_list : (list_at : Place) (ts : List Tree) (stack : List Frame) (t : Tree) →
    delivered (frame.in_list list_at ts ∷ stack) t ≡ Some (gap_state (frame.in_list list_at (ts ++ t ∷ []) ∷ stack) None (awaited.item true))
unfolding delivered
deliver_list list_at ts stack t = refl

-- a member joins its object
deliver_member : (object_at : Place) (ms : List Member) (k : List ℕ) (key_at : Place) (stack : List Frame) (t : Tree) →
    delivered (frame.in_member object_at ms k key_at ∷ stack) t ≡ Some (gap_state (frame.in_object object_at (ms ++ record { key = k; key_place = key_at; value = t } ∷ []) ∷ stack) None (awaited.item true))
unfolding delivered
deliver_member object_at ms k key_at stack t = refl

mutual
  -- an object
  object_goes : {at at' : Place} {s r : List ℕ} {tree : Tree} (stack : List Frame) (begin end : State) →
      ((c : ℕ) → c ≡ open_brace → step at begin c ≡ Some (gap_state (frame.in_object at [] ∷ stack) None (awaited.item false))) →
      delivered stack tree ≡ Some end → Object at s tree at' r → Goes at begin s at' end r
  object_goes stack begin end opens e (object {at} {at1} {at2} {c} {d} {s} {s1} {s2} {ms} h g m k) t doc =
      goes_step at begin (gap_state (frame.in_object at [] ∷ stack) None (awaited.item false)) c s (opens c h) t
      (gap_goes (frame.in_object at [] ∷ stack) None (awaited.item false) g t
      (members_goes stack false at [] end m refl e k t doc))

  -- a value
  value_goes : {at at' : Place} {s r : List ℕ} {tree : Tree} (stack inner : List Frame) (p : Awaited) → Takes stack p →
      delivered stack tree ≡ Some (gap_state inner None (awaited.item true)) → Value at s tree at' r →
      Goes at (gap_state stack None p) s at' (gap_state inner None (awaited.item true)) r
  value_goes stack inner p takes e (object_value {at} {at'} {s} {r} {t} o) top doc =
      object_goes stack (gap_state stack None p) (gap_state inner None (awaited.item true)) (λ c h. takes.direct at c (rw h refl) ∙ begin_object at stack c h) e o top doc
  value_goes stack inner p takes e (list_value {at} {at1} {at2} {c} {d} {s} {s1} {s2} {ts} h g m k) t doc =
      goes_step at (gap_state stack None p) (gap_state (frame.in_list at [] ∷ stack) None (awaited.item false)) c s (takes.direct at c (rw h refl) ∙ begin_list at stack c h) t
      (gap_goes (frame.in_list at [] ∷ stack) None (awaited.item false) g t
      (values_goes stack false at [] (gap_state inner None (awaited.item true)) m refl e k t doc))
  value_goes stack inner p takes e (leaf_value l) t doc = leaf_goes stack inner p takes l e t doc

  -- the rest of a list
  values_goes : {at at' : Place} {s rest r : List ℕ} {d : ℕ} {more : List Tree} (stack : List Frame) (b : Bool) (list_at : Place) (ts : List Tree) (end : State) →
      ValueRun at s more at' rest → rest ≡ d ∷ r → delivered stack (list_of (ts ++ more) list_at) ≡ Some end → d ≡ close_bracket →
      Goes at (gap_state (frame.in_list list_at ts ∷ stack) None (awaited.item b)) s (next_place at' d) end r
  values_goes {r = r} {d = d} stack b list_at ts end (no_value {at} {s}) is e k top doc =
      rw is (goes_step at (gap_state (frame.in_list list_at ts ∷ stack) None (awaited.item b)) end d r (close_list list_at at ts stack b d k ∙ rw append-nil at e) top doc)
  values_goes stack b list_at ts end (one_value {at} {at1} {at2} {at3} {at'} {s} {s1} {s2} {s3} {r} {t} v g c vs) is e k top doc =
      let inner : List Frame = frame.in_list list_at (ts ++ t ∷ []) ∷ stack in
      value_goes (frame.in_list list_at ts ∷ stack) inner (awaited.item b) (takes_list list_at ts stack b) (deliver_list list_at ts stack t) v top
      (gap_goes inner None (awaited.item true) g top
      (comma_goes inner top c (λ b. values_goes stack b list_at (ts ++ t ∷ []) end vs is (rw append_assoc e) k top doc)))

  -- the rest of an object
  members_goes : {at at' : Place} {s rest r : List ℕ} {d : ℕ} {more : List Member} (stack : List Frame) (b : Bool) (object_at : Place) (ms : List Member) (end : State) →
      MemberRun at s more at' rest → rest ≡ d ∷ r → delivered stack (object_of (ms ++ more) object_at) ≡ Some end → d ≡ close_brace →
      Goes at (gap_state (frame.in_object object_at ms ∷ stack) None (awaited.item b)) s (next_place at' d) end r
  members_goes {r = r} {d = d} stack b object_at ms end (no_member {at} {s}) is e k top doc =
      rw is (goes_step at (gap_state (frame.in_object object_at ms ∷ stack) None (awaited.item b)) end d r (close_object object_at at ms stack b d k ∙ rw append-nil at e) top doc)
  members_goes stack b object_at ms end (one_member {at} {at1} {at2} {at3} {at4} {at5} {at6} {at'} {d} {s} {k} {s1} {s2} {s3} {s4} {s5} {s6} {r} {t} key g f g2 v g3 co rest) is e last top doc =
      let keyed_stack : List Frame = frame.in_member object_at ms k at ∷ stack in
      let member : Member = record { key = k; key_place = at; value = t } in
      let inner : List Frame = frame.in_object object_at (ms ++ member ∷ []) ∷ stack in
      key_goes object_at ms stack b key top
      (gap_goes keyed_stack None awaited.colon g top
      (goes_step at2 (gap_state keyed_stack None awaited.colon) (gap_state keyed_stack None awaited.value) d s2 (step_colon at2 keyed_stack d f) top
      (gap_goes keyed_stack None awaited.value g2 top
      (value_goes keyed_stack inner awaited.value (takes_value keyed_stack) (deliver_member object_at ms k at stack t) v top
      (gap_goes inner None (awaited.item true) g3 top
      (comma_goes inner top co (λ b. members_goes stack b object_at (ms ++ member ∷ []) end rest is (rw append_assoc e) last top doc)))))))

-- the document's object is closed
deliver_root : (t : Tree) → delivered [] t ≡ Some (gap_state [] (Some t) awaited.end)
unfolding delivered
deliver_root t = refl

-- a document of the grammar is read, with its tree
pub document_read : {s : List ℕ} {t : Tree} → Document s t → Finds origin start s t
document_read (document {at1} {at2} {at3} {s} {s1} {s2} {t} g o g2) =
    gap_goes [] None awaited.root g t
    (object_goes [] start (gap_state [] (Some t) awaited.end) (λ c h. step_root at1 c h) (deliver_root t) o t
    (gap_goes [] (Some t) awaited.end g2 t (gap_state [] (Some t) awaited.end, refl, refl)))
