-- The text of an object is read back.
use Rattle.std.proofs.Common.{◌≤◌, [], ◌∷◌, refl, sym, subst}
use Rattle.serde_json.specs.Data.{Members, object, depth}
use Rattle.cg_docspec.specs.Place.{origin}
use Rattle.cg_docspec.specs.Gap.{no_gap, blank}
use Rattle.cg_docspec.specs.Document.{Document, document}
use Rattle.cg_jsonspec.specs.Said.{IsSayable}
use Rattle.cg_jsonspec.specs.Layout.{layout, layout_text}
use Rattle.cg_jsonspec.specs.ReadsBack.{ReadsBack}
use Rattle.cg_jsonspec.proofs.Characters.{spelled, spells_text, utf8_of, chars_of}
use Rattle.cg_jsonspec.proofs.Values.{reads_members}
use Rattle.cg_jsonspec.proofs.Depths.{no_deeper}

-- an object, at most 64 deep, from its layout
pub reads_back : (ms : Members) → IsSayable (object ms) → depth (object ms) ≤ 64 → ReadsBack (layout_text (object ms)) (object ms)
unfolding IsSayable layout spelled
reads_back ms h shallow =
    let spells = spells_text (object ms) h in
    let is = reads_members ms 0 h (10 ∷ []) origin in
    let whole : Document (layout_text (spelled (object ms))) is.root = document no_gap is.value (blank refl no_gap) in
    record {
      utf8 = utf8_of spells;
      root = is.root;
      document = subst (λ s. Document s is.root) (sym (chars_of spells)) whole;
      same = is.same;
      shallow = no_deeper is.root (object ms) 64 is.same shallow;
    }
