-- One list of files is wanted of a top, and what these files break or build is what the top breaks or builds.
use Rattle.std.proofs.Common.{◌≡◌, ℕ, List, [], ◌∷◌, Option, Result, Ok, Err, IfOk, refl, sym, ap, subst, ◌∙◌}
use Rattle.std.specs.FinMap as fin
use Rattle.cg_base.specs.Outside.{Files}
use Rattle.cg_desc.specs.Faults.{Before}
use Rattle.cg_desc.specs.Top.{AreTypes}
use Rattle.cg_desc.specs.declared.fault.DescFault.{DescFault}
use Rattle.cg_desc.specs.declared.fault.DescFault.TheVariants as refusal
use Rattle.cg_desc.specs.declared.fault.Fault.{Fault}
use Rattle.cg_desc.specs.declared.top.TopDesc.{TopDesc}
use Rattle.cg_files.specs.Files.{File}
use Rattle.cg_files.proofs.OneTree.{same_tree, unbroken}
use Rattle.cg_finding.specs.Finding.{Finding}
use Rattle.cg_finding.specs.Violations.{IsFirstFault}
use Rattle.cg_hjson.specs.declared.tree.Tree.{Tree}
use Rattle.cg_outputs.specs.declared.out_file.OutFile.{OutFile}
use Rattle.cg_topread.specs.Described.{top_of}
use Rattle.cg_topread.specs.Violations.{Violates as BreaksTopKeys}
use Rattle.cg_topread.proofs.TypesOnce.{types_one}
use Rattle.cg_design.specs.Breaks.{BreaksTopFile, DescribesTop, of_file, keys}
use Rattle.cg_design.specs.Files.{given_file, named_files}
use Rattle.cg_chip.specs.Violations as chip
use Rattle.cg_keep.specs.Files.{AreFilesOf, AreWanted, IsBuilt, Violates, files_named, top_alone, all}
use Rattle.cg_keep.specs.Kept.{Builds}

-- ---- the top's own file

-- a file that describes a top breaks nothing by itself
pub described_unbroken : (file : File) (t : Tree) (top : TopDesc) (f : Finding) → DescribesTop file t top → BreaksTopFile file f → ⊥
described_unbroken file t top _ is (of_file {f = f} broken) = unbroken file t f is.has_tree broken
described_unbroken file t top _ is (keys {f = f} u has broken) = is.sound f (subst (λ x. BreaksTopKeys x f) (same_tree file u t has is.has_tree) broken)

-- and describes no other
pub described_one : (file : File) (t u : Tree) (a b : TopDesc) → DescribesTop file t a → DescribesTop file u b → a ≡ b
described_one file t u a b is also = is.is ∙ ap (top_of file.number) (same_tree file t u is.has_tree also.has_tree) ∙ sym also.is

-- ---- names

types_alike : (a b : TopDesc) (s t : List (List ℕ)) → a ≡ b → AreTypes a.insts s → AreTypes b.insts t → s ≡ t
types_alike a b s t same are also = types_one a.insts s are ∙ sym (types_one a.insts t (subst (λ (x : TopDesc). AreTypes x.insts t) (sym same) also))

named_alike : (a b : TopDesc) (s t : List (List ℕ)) → a ≡ b → s ≡ t → named_files a s ≡ named_files b t
named_alike a b s t same also = (λ i. named_files (same i) (also i))

-- one list of names is wanted
pub wanted_one : (own : Option (List ℕ)) (top : List ℕ) (names others : List (List ℕ)) → AreWanted own top names → AreWanted own top others → names ≡ others
wanted_one own top _ _ (top_alone f broken) (top_alone g also) = refl
wanted_one own top _ _ (top_alone f broken) (all t d types is are) = absurd (described_unbroken (given_file 0 0 own) t d f is broken)
wanted_one own top _ _ (all t d types is are) (top_alone f broken) = absurd (described_unbroken (given_file 0 0 own) t d f is broken)
wanted_one own top _ _ (all t d types is are) (all u e others also are_also) =
    let same = described_one (given_file 0 0 own) t u d e is also in
    ap (λ ns. top ∷ ns) (named_alike d e types others same (types_alike d e types others same are are_also))

-- the top's own file comes first
pub wanted_first : (own : Option (List ℕ)) (top : List ℕ) (names : List (List ℕ)) → AreWanted own top names → (rest : List (List ℕ)) × (names ≡ top ∷ rest)
wanted_first own top _ (top_alone f broken) = ([], refl)
wanted_first own top _ (all t d types is are) = (named_files d types, refl)

-- all that is wanted of a top, as far as memory was found
pub wanted_all : {E : Type 0} (own : Option (List ℕ)) (top : List ℕ) (t : Tree) (d : TopDesc) → DescribesTop (given_file 0 0 own) t d → (r : Result (List (List ℕ)) E)
    → IfOk r (λ names. (types : List (List ℕ)) × AreTypes d.insts types × (names ≡ top ∷ named_files d types)) → IfOk r (λ names. AreWanted own top names)
wanted_all own top t d is (Ok names) (types, are, same) = subst (AreWanted own top) (sym same) (all t d types is are)
wanted_all own top t d is (Err e) none = tt

-- ---- files

module _ (top : List ℕ) (files : Files) where
  -- one list of files is that of the top's build
  pub files_one : (own others : List File) → AreFilesOf top files own → AreFilesOf top files others → own ≡ others
  files_one own others are also =
      are.are ∙ ap (files_named files) (wanted_one (fin.get files top) top are.names also.names are.wanted also.wanted) ∙ sym also.are

  module _ (own : List File) (are : AreFilesOf top files own) where
    -- what these files break is what the top's files break
    pub broken_here : (f : Fault) → Violates top files f → chip.Violates own f
    broken_here f v = subst (λ fs. chip.Violates fs f) (files_one v.own own v.are are) v.breaks

    pub broken_there : (f : Fault) → chip.Violates own f → Violates top files f
    broken_there f broken = record { own = own; are = are; breaks = broken }

    pub first_there : (f : Fault) → IsFirstFault (chip.Violates own) f → IsFirstFault (Violates top files) f
    first_there f first = record {
      violates = broken_there f first.violates;
      least = λ other v. first.least other (broken_here other v);
    }

    -- and what is built of them is what is built of the top's files
    pub builds_there : (r : Result (List OutFile) DescFault) → chip.Builds r own → Builds r top files
    builds_there (Ok outputs) build = record { own = own; are = are; build = build }
    builds_there (Err (refusal.Fault f)) first = first_there f first
    builds_there (Err refusal.Memory) first = tt
