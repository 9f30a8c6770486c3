-- The text that is printed for a completed description.
use Rattle.std.proofs.Common.{◌≡◌, ℕ, Bool, false, ◌||◌, pos, negsuc, List, refl, ap, ◌∙◌, subst, arith}
use Rattle.json.specs.Layout.{pretty}
use Rattle.json.specs.Lex.{tokens}
use Rattle.serde_json.specs.Data.{Num, unsigned, negative, float, Data, Items, Members, null, boolean, number, string, array, object, no_items, item, no_members, member}
use Rattle.serde_json.specs.Find.{is_float}
use Rattle.serde_json.specs.Written.{IsInOrder, has_float, items_have_float, members_have_float}
use Rattle.serde_json.proofs.Texts.{tokens_from_order}
use Rattle.cg_jsonspec.specs.Laws.{LayoutIsPretty}
use Rattle.cg_jsonspec.specs.Layout.{layout}
use Rattle.cg_jsonspec.specs.Said.{AreSayable, AreSayableMembers, IsIntegerOfDocuments, IsSayable}
use Rattle.cg_blkdone.proofs.Fine.{IsFine}

-- neither holds
neither : (a b : Bool) → a ≡ false → b ≡ false → (a || b) ≡ false
neither a b e f = rw (e, f) refl

-- an integer of documents has no fraction
no_fraction : (x : Num) → IsIntegerOfDocuments x → is_float x ≡ false
no_fraction (unsigned n) h = refl
no_fraction (negative (pos n)) h = absurd h
no_fraction (negative (negsuc n)) h = refl
no_fraction (float x) h = absurd h

mutual
  unfolding IsSayable AreSayable AreSayableMembers

  -- a value that a document can say has no fraction
  whole : (d : Data) → IsSayable d → has_float d ≡ false
  whole null h = refl
  whole (boolean b) h = refl
  whole (number x) h = no_fraction x h
  whole (string s) h = refl
  whole (array ds) h = whole_items ds h
  whole (object ms) h = whole_members ms h

  whole_items : (ds : Items) → AreSayable ds → items_have_float ds ≡ false
  whole_items no_items h = refl
  whole_items (item d ds) h = neither (has_float d) (items_have_float ds) (whole d h.0) (whole_items ds h.1)

  whole_members : (ms : Members) → AreSayableMembers ms → members_have_float ms ≡ false
  whole_members no_members h = refl
  whole_members (member k d ms) h = neither (has_float d) (members_have_float ms) (whole d h.1) (whole_members ms h.2)

-- a text in the layout of its tokens, which are the value's, is the value's layout
pub printed : (text : List ℕ) (seen d : Data) → LayoutIsPretty → text ≡ pretty (tokens text) → IsInOrder text seen → seen ≡ d → IsFine 64 d → text ≡ layout 0 d
printed text seen d is_pretty laid order same h =
    laid ∙ ap pretty (tokens_from_order text d (subst (IsInOrder text) same order) (whole d h.0)) ∙ is_pretty d (omega (arith, h.1))
