-- What is due for the files of a top, and what its outputs mean.
use Rattle.std.proofs.Common.{◌≡◌, ℕ, zero, suc, List, [], ◌∷◌, ◌++◌, length, map, slice_get, Option, Some, None, refl, sym, ap, subst, ◌∙◌, arith}
use Rattle.std.specs.FinMap as fin
use Rattle.cg_base.specs.Outside.{Files}
use Rattle.cg_desc.specs.declared.fault.Fault.{Fault}
use Rattle.cg_files.specs.Files.{absent}
use Rattle.cg_finding.specs.Rules as rules
use Rattle.cg_finding.specs.Violations.{IsFirstFault}
use Rattle.cg_outputs.specs.declared.out_file.OutFile.{OutFile}
use Rattle.cg_design.specs.Breaks.{of_file}
use Rattle.cg_keep.specs.Files.{AreWanted, IsBuilt, top_alone}
use Rattle.cg_keep.specs.Files as keep
use Rattle.cg_keep.specs.Laws.{BuiltBreaksNothing, WhatIsBuiltMeans}
use Rattle.cg_words.specs.declared.command.Command.TheVariants.{Topgen}
use Rattle.cg_gen.specs.declared.due.Due.{Due}
use Rattle.cg_gen.specs.Reads.{Read, GaveAll, name_of_file, names_of}
use Rattle.cg_gen.specs.Topgen.{AreWritten, StandsIn, Violates, WritesTop, files_read}
use Rattle.cg_gen.specs.Due.{HasReadAll, due_of_fault, due_of_outputs}
use Rattle.cg_gen.specs.Inner.{IsDueFrom, refuses, builds}
use Rattle.cg_gen.specs.Gathering.{AreOfNames}
use Rattle.cg_gen.proofs.Folders.{stands_one}
use Rattle.cg_gen.proofs.Kept.{after, kept_apart, untouched}
use Rattle.cg_keep.proofs.Texts.{written_differ}
use Rattle.cg_gen.proofs.TopFiles.{kept_as_there, kept_stays}
use Rattle.cg_gen.proofs.TopReads.{WantedBy, all_read, are_so, some_read}

-- ---- the name of a file by its number

pub name_there : (folder : List ℕ) (reads : List Read) (names : List (List ℕ)) (n : ℕ) (name : List ℕ) → names_of reads ≡ map (λ x. folder ++ x) names → slice_get names n ≡ Some name
    → name_of_file reads n ≡ folder ++ name
name_there folder reads [] n name same at = absurd (let bad : ◌≡◌ {A = Option (List ℕ)} None (Some name) = at in cc)
name_there folder [] (x ∷ names) n name same at = absurd (let bad : ◌≡◌ {A = List (List ℕ)} [] ((folder ++ x) ∷ map (λ y. folder ++ y) names) = same in cc)
name_there folder (r ∷ reads) (x ∷ names) zero name same at =
    let first : r.name ≡ folder ++ x = cc in
    let is : x ≡ name = cc in
    first ∙ ap (λ y. folder ++ y) is
name_there folder (r ∷ reads) (x ∷ names) (suc n) name same at = let rest : names_of reads ≡ map (λ y. folder ++ y) names = cc in name_there folder reads names n name rest at

pub name_nowhere : (folder : List ℕ) (reads : List Read) (names : List (List ℕ)) (n : ℕ) → names_of reads ≡ map (λ x. folder ++ x) names → slice_get names n ≡ None → name_of_file reads n ≡ []
name_nowhere folder [] names n same at = refl
name_nowhere folder (r ∷ reads) [] n same at = absurd (let bad : ◌≡◌ {A = List (List ℕ)} (r.name ∷ names_of reads) [] = same in cc)
name_nowhere folder (r ∷ reads) (x ∷ names) zero same at = absurd (let bad : Some x ≡ None = at in cc)
name_nowhere folder (r ∷ reads) (x ∷ names) (suc n) same at = let rest : names_of reads ≡ map (λ y. folder ++ y) names = cc in name_nowhere folder reads names n rest at

-- reads of all these names have them
pub named_so : (folder : List ℕ) (reads : List Read) (names : List (List ℕ)) → AreOfNames folder reads names → length reads ≡ length names → names_of reads ≡ map (λ x. folder ++ x) names
named_so folder [] [] of count = refl
named_so folder [] (x ∷ names) of count = absurd (omega (arith, count))
named_so folder (r ∷ reads) [] of count = absurd of
named_so folder (r ∷ reads) (x ∷ names) of count = (λ i. of.0 i ∷ named_so folder reads names of.1 (omega (arith, count)) i)

module _ (file dir : List ℕ) (workers : ℕ) (folder own : List ℕ) (stands : StandsIn file folder own) where
  module _ (reads : List Read) where
    -- ---- what is due

    broken_here : (f : Fault) → Violates file reads f → keep.Violates own (files_read folder reads) f
    broken_here f v =
        let same = stands_one file v.folder v.own folder own v.stands stands in
        subst (λ x. keep.Violates own (files_read x reads) f) same.0 (subst (λ o. keep.Violates o (files_read v.folder reads) f) same.1 v.breaks)

    -- the first fault is told
    pub fault_due : (fault : Fault) (d : Due) → IsFirstFault (keep.Violates own (files_read folder reads)) fault → d ≡ due_of_fault reads fault → IsDueFrom (Topgen file dir workers) reads d
    fault_due fault d first is =
        refuses fault
        (record {
          violates = record { folder = folder; own = own; stands = stands; breaks = first.violates };
          least = λ other v. first.least other (broken_here other v);
        })
        is

    -- the outputs are written
    pub outputs_due : BuiltBreaksNothing → (outputs : List OutFile) (d : Due) → IsBuilt own (files_read folder reads) outputs → d ≡ due_of_outputs dir outputs → IsDueFrom (Topgen file dir workers) reads d
    outputs_due law outputs d built is =
        let written : AreWritten file reads outputs = record { folder = folder; own = own; stands = stands; built = built } in
        builds outputs (λ fault v. law own (files_read folder reads) outputs fault built (broken_here fault v)) (outputs, written) written is

  -- ---- the top's own file

  -- it stays as it was read first
  own_stays : (first : Read) (more : List Read) → HasReadAll (Topgen file dir workers) (first ∷ more) → fin.get (files_read folder (first ∷ more)) own ≡ fin.get (files_read folder (first ∷ [])) own
  own_stays first more has = by (fin.get (files_read folder (first ∷ [])) own) refl where
    none_behind : (rest : List Read) → AreOfNames folder (first ∷ rest) (own ∷ []) → rest ≡ []
    none_behind [] of = refl
    none_behind (r ∷ rest) of = absurd of.1

    by : (o : Option (List ℕ)) → fin.get (files_read folder (first ∷ [])) own ≡ o → fin.get (files_read folder (first ∷ more)) own ≡ fin.get (files_read folder (first ∷ [])) own
    by (Some k) is = kept_stays folder (files_read folder (first ∷ [])) more own k is ∙ sym is
    by None is =
        let alone : WantedBy folder own first (own ∷ []) = subst (λ o. AreWanted o own (own ∷ [])) (sym is) (top_alone rules.file_absent (of_file (absent refl))) in
        ap (λ rest. fin.get (files_read folder (first ∷ rest)) own) (none_behind more (are_so file dir workers folder own stands (first ∷ more) has.has_read (own ∷ []) alone))

  -- ---- what is written

  module _ (m : Files) (law : WhatIsBuiltMeans) where
    written_by : (first : Read) (more : List Read) (os : List OutFile) → GaveAll (Some m) (first ∷ more) → HasReadAll (Topgen file dir workers) (first ∷ more) → IsBuilt own (files_read folder (first ∷ more)) os
        → WritesTop dir file m (after dir m os)
    written_by first more os gave has built =
        let all = all_read file dir workers folder own stands first more has built.are.names (subst (λ o. AreWanted o own built.are.names) (own_stays first more has) built.are.wanted) in
        record {
          own = own;
          files = files_read folder (first ∷ more);
          has_files = record {
            folder = folder;
            stands = stands;
            names = built.are.names;
            wanted = built.are.wanted;
            are = λ name among. kept_as_there folder m (first ∷ more) built.are.names name all.0 all.1 gave among;
          };
          outputs = os;
          built = built;
          means = law own (files_read folder (first ∷ more)) os built;
          holds = λ o among. kept_apart dir m os o (written_differ built.build.chip os built.build.written) among;
          others = λ name none. untouched dir m os name none;
        }

-- all that is written of a top means what it says
pub by_topgen : WhatIsBuiltMeans → (file dir : List ℕ) (workers : ℕ) (m : Files) (reads : List Read) (os : List OutFile) → GaveAll (Some m) reads → HasReadAll (Topgen file dir workers) reads → AreWritten file reads os
    → WritesTop dir file m (after dir m os)
by_topgen law file dir workers m reads os gave has w =
    let some = some_read file dir workers w.folder w.own w.stands reads has in
    written_by file dir workers w.folder w.own w.stands m law some.0 some.1 os (subst (GaveAll (Some m)) some.2 gave) (subst (HasReadAll (Topgen file dir workers)) some.2 has)
    (subst (λ rs. IsBuilt w.own (files_read w.folder rs) os) some.2 w.built)
