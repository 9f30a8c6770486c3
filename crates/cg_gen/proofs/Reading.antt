-- What a store gave for a file, by the answer of a read.
use Rattle.std.proofs.Common.{◌≡◌, ℕ, ◌<◌, List, [], ◌++◌, length, Option, Some, None, refl, sym, ap, ◌∙◌, arith, replicate}
use Rattle.std.specs.FinMap as fin
use Rattle.std.proofs.lemmas.List.{length-replicate}
use Rattle.cg_base.specs.Outside.{Files, ReadAnswers}
use Rattle.cg_base.specs.declared.outside.Found.{Found}
use Rattle.cg_base.specs.declared.outside.Found.TheVariants.{Yes, Absent, Large}
use Rattle.cg_files.specs.Files.{limit}
use Rattle.cg_gen.specs.declared.given.Given.{Given}
use Rattle.cg_gen.specs.declared.given.Given.TheVariants as given
use Rattle.cg_gen.specs.Reads.{Gave, read}
use Rattle.cg_gen.specs.Inner.{IsGiven}

-- what is held of a file, with what the store gave
abbrev pub Holds : Option Files → List ℕ → Given → Type 0
Holds files name held = (g : Option (List ℕ)) × IsGiven held g × Gave files (read name g)

-- a text of n bytes
some_text : (n : ℕ) → (text : List ℕ) × (length text ≡ n)
some_text n = (replicate n 0, length-replicate n 0)

abbrev Told : Option Files → List ℕ → Found → List ℕ → List ℕ → Type 0
Told files name found old new = (m : Files) → files ≡ Some m → ReadAnswers (fin.get m name) 1048576 found old new

pub holds_absent : (files : Option Files) (name old new : List ℕ) → Told files name Absent old new → Holds files name given.Absent
holds_absent files name old new told = (None, refl, λ m e. told m e)

pub holds_bytes : (files : Option Files) (name bytes old new : List ℕ) → Told files name Yes old new → old ≡ [] → bytes ≡ new → Holds files name (given.Bytes bytes)
holds_bytes files name bytes old new told empty same =
    (Some bytes, refl, λ m e. let a = told m e in a.1 ∙ ap Some (sym (same ∙ a.3 ∙ ap (λ z. z ++ a.0) empty)))

-- a file above the limit: where it is not told, some such file
pub holds_large : (files : Option Files) (name old new : List ℕ) → Told files name Large old new → Holds files name given.Large
holds_large None name old new told =
    let t = some_text 1048577 in
    let long : limit < length t.0 = omega (arith, t.1) in
    (Some t.0, (t.0, refl, long), λ m e. absurd (cc))
holds_large (Some m) name old new told =
    let a = told m refl in
    (Some a.0, (a.0, refl, a.2), λ n e. let same : n ≡ m = cc in ap (λ z. fin.get z name) same ∙ a.1)

-- what is held was given so
pub some_given : (held : Given) → (g : Option (List ℕ)) × IsGiven held g
some_given given.Absent = (None, refl)
some_given given.Large = let t = some_text 1048577 in let long : limit < length t.0 = omega (arith, t.1) in (Some t.0, (t.0, refl, long))
some_given (given.Bytes bytes) = (Some bytes, refl)
