-- What a line of a header gives, in the words of the definition.
use Rattle.std.specs.Prelude.{List, [], ◌∷◌, Option, Some, None}
use Rattle.cg_hdrspec.specs.Header.{Constant, constant}
use Rattle.cg_blkhdr.specs.declared.line.Content.{Content}
use Rattle.cg_blkhdr.specs.declared.line.Content.TheVariants.{Formless, Nothing, Named}

-- no constants where the line has no form, else those that it gives
abbrev pub gives : Content → Option (List Constant)
gives Formless = None
gives Nothing = Some []
gives (Named name value) = Some (constant name.now value ∷ [])
