-- What is built of the files of a top, from what its parts say.
use Rattle.std.proofs.Common.{◌≡◌, ℕ, ◌+◌, List, [], ◌∷◌, length, map, Option, Some, Result, Ok, Err, refl, sym, ap, subst, ◌∙◌}
use Rattle.std.proofs.lemmas.List.{length-append, length-map}
use Rattle.std.specs.FinMap as fin
use Rattle.cg_base.specs.Outside.{Files}
use Rattle.cg_desc.specs.Faults.{Before}
use Rattle.cg_desc.specs.Merged.{design_of}
use Rattle.cg_desc.specs.Top.{AreTypes}
use Rattle.cg_desc.specs.declared.fault.DescFault.{DescFault}
use Rattle.cg_desc.specs.declared.fault.DescFault.TheVariants as refusal
use Rattle.cg_desc.specs.declared.fault.Fault.{Fault}
use Rattle.cg_desc.specs.declared.top.TopDesc.{TopDesc}
use Rattle.cg_desc.specs.declared.top.XbarUse.{XbarUse}
use Rattle.cg_files.specs.Files.{File}
use Rattle.cg_finding.specs.Finding.{Finding, in_file}
use Rattle.cg_finding.specs.Violations.{IsFirstFault, IsFirstViolation, RefusesFirst}
use Rattle.cg_hjson.specs.declared.tree.Tree.{Tree}
use Rattle.cg_outputs.specs.declared.out_file.OutFile.{OutFile}
use Rattle.cg_design.specs.Breaks.{BreaksTopFile, DescribesTop}
use Rattle.cg_design.specs.Design.{IsTop}
use Rattle.cg_design.specs.Laws.{MergedBreaksNothing}
use Rattle.cg_design.specs.Files.{FileIs, block_file, crossbar_file, given_file, named_files, numbered}
use Rattle.cg_design.specs.Violations.{IsSourceOf}
use Rattle.cg_design.specs.Violations as design
use Rattle.cg_design.specs.declared.together.DesignSource.{DesignSource}
use Rattle.cg_chip.specs.Violations as chip
use Rattle.cg_keep.specs.Files.{AreFilesOf, AreWanted, Violates, files_named, top_alone, all}
use Rattle.cg_keep.specs.Kept.{Builds, Describes, IsDescribed}
use Rattle.cg_keep.proofs.Wanted.{builds_there, described_unbroken, first_there}

-- ---- a top's own file that breaks a rule by itself

module _ (given : Option (List ℕ)) (f : Finding) (broken : BreaksTopFile (given_file 0 0 given) f) where
  abbrev own : File
  own = given_file 0 0 given

  only_file : (file : File) → FileIs (own ∷ []) 0 file → file ≡ own
  only_file file is = let both : Some own ≡ Some file = is in cc

  -- it describes no top
  no_top : (top : TopDesc) (types : List (List ℕ)) → IsTop (own ∷ []) top types → ⊥
  no_top top types is = described_unbroken own is.tree top f (subst (λ file. DescribesTop file is.tree top) (only_file is.file is.first) is.describes) broken

  -- this is among what it breaks
  abbrev Breaks : Fault → Type 0
  Breaks fault = (g : Finding) × BreaksTopFile own g × (fault ≡ in_file 0 g)

  design_alone : (fault : Fault) → design.Violates (own ∷ []) fault → Breaks fault
  design_alone _ (design.top_file file g at is) =
      (g, subst (λ x. BreaksTopFile x g) (only_file file at) is, ap (λ (x : File). in_file x.number g) (only_file file at))
  design_alone _ (design.crossbar_file top types x listed file g is at breaks) = absurd (no_top top types is)
  design_alone _ (design.block_file top types k kind file g is at breaks) = absurd (no_top top types is)
  design_alone _ (design.merging d fault is breaks) = absurd (no_top d.top is.types is.top)
  design_alone _ (design.ranges m fault is breaks) = absurd (no_top (design_of m).top is.design.types is.design.top)

  alone : (fault : Fault) → chip.Violates (own ∷ []) fault → Breaks fault
  alone _ (chip.design {f = fault} is) = design_alone fault is
  alone _ (chip.numbers m is breaks) = absurd (no_top (design_of m).top is.merged.design.types is.merged.design.top)
  alone _ (chip.sources m is breaks) = absurd (no_top (design_of m).top is.merged.design.types is.merged.design.top)
  alone _ (chip.pins m is breaks) = absurd (no_top (design_of m).top is.merged.design.types is.merged.design.top)
  alone _ (chip.top_names c name is twice) = absurd (no_top (design_of c.source.merged).top is.merged.design.types is.merged.design.top)
  alone _ (chip.crossbar_names c x xbar ranges name is at twice) = absurd (no_top (design_of c.source.merged).top is.merged.design.types is.merged.design.top)
  alone _ (chip.block_names c k laid tree name is at twice) = absurd (no_top (design_of c.source.merged).top is.merged.design.types is.merged.design.top)

  -- the first that it breaks is the first fault of the build
  pub alone_first : IsFirstViolation (BreaksTopFile own) f → IsFirstFault (chip.Violates (own ∷ [])) (in_file 0 f)
  alone_first first = record {
    violates = chip.design (design.top_file own f refl first.violates);
    least = λ fault v before. let b = alone fault v in first.least 0 b.0 b.1 (subst (λ x. Before x (in_file 0 f)) b.2 before);
  }

-- ---- stages

-- what the files break up to the ranges is first of all that they break
pub design_refused : MergedBreaksNothing → (e : DescFault) (files : List File) → design.Merges (Err e) files → chip.Builds (Err e) files
design_refused law (refusal.Fault fault) files first = record { violates = chip.design first.violates; least = least } where
  least : (other : Fault) → chip.Violates files other → ¬ Before other fault
  least _ (chip.design {f = other} is) = first.least other is
  least _ (chip.numbers m is breaks) = absurd (law files m is.merged is.spaced fault first.violates)
  least _ (chip.sources m is breaks) = absurd (law files m is.merged is.spaced fault first.violates)
  least _ (chip.pins m is breaks) = absurd (law files m is.merged is.spaced fault first.violates)
  least _ (chip.top_names c name is twice) = absurd (law files c.source.merged is.merged is.spaced fault first.violates)
  least _ (chip.crossbar_names c x xbar ranges name is at twice) = absurd (law files c.source.merged is.merged is.spaced fault first.violates)
  least _ (chip.block_names c k laid tree name is at twice) = absurd (law files c.source.merged is.merged is.spaced fault first.violates)
design_refused law refusal.Memory files r = tt

pub chip_refused : (e : DescFault) (files : List File) → chip.Computes (Err e) files → chip.Builds (Err e) files
chip_refused (refusal.Fault fault) files first = first
chip_refused refusal.Memory files r = tt

module _ (top : List ℕ) (files : Files) where
  -- its own file is all that is wanted
  alone_wanted : (given : Option (List ℕ)) (f : Finding) → fin.get files top ≡ given → BreaksTopFile (given_file 0 0 given) f → AreFilesOf top files (given_file 0 0 given ∷ [])
  alone_wanted given f is broken = record {
    names = top ∷ [];
    wanted = subst (λ o. AreWanted o top (top ∷ [])) (sym is) (top_alone f broken);
    are = ap (λ o. given_file 0 0 o ∷ []) (sym is);
  }

  pub top_refused : (given : Option (List ℕ)) (e : DescFault) → fin.get files top ≡ given → RefusesFirst e 0 (BreaksTopFile (given_file 0 0 given)) → Builds (Err e) top files
  top_refused given (refusal.Fault fault) is (f, same, first) =
      subst (IsFirstFault (Violates top files)) (sym same)
      (first_there top files (given_file 0 0 given ∷ []) (alone_wanted given f is first.violates) (in_file 0 f) (alone_first given f first.violates first))
  top_refused given refusal.Memory is r = tt

  -- ---- a top's own file that describes it

  -- they are its files
  all_wanted : (given : Option (List ℕ)) (t : Tree) (d : TopDesc) (types names : List (List ℕ)) (others : List (Option (List ℕ))) → fin.get files top ≡ given → DescribesTop (given_file 0 0 given) t d
      → AreTypes d.insts types → names ≡ named_files d types → others ≡ map (fin.get files) names → AreFilesOf top files (numbered (given ∷ others))
  all_wanted given t d types names others is describes are_types named given_so = record {
    names = top ∷ named_files d types;
    wanted = subst (λ o. AreWanted o top (top ∷ named_files d types)) (sym is) (all t d types describes are_types);
    are = (λ i. numbered (sym is i ∷ (given_so ∙ ap (map (fin.get files)) named) i));
  }

  -- a refusal is the same of a build and of what is described
  pub refused_so : (e : DescFault) → Builds (Err e) top files → Describes (Err e) top files
  refused_so (refusal.Fault fault) first = first
  refused_so refusal.Memory r = tt

  pub refuses_so : (e : DescFault) → Describes (Err e) top files → Builds (Err e) top files
  refuses_so (refusal.Fault fault) first = first
  refuses_so refusal.Memory r = tt

  -- what its files describe together, as they are given
  pub described_of : MergedBreaksNothing → (given : Option (List ℕ)) (t : Tree) (d : TopDesc) (types names : List (List ℕ)) (others : List (Option (List ℕ))) → fin.get files top ≡ given
      → DescribesTop (given_file 0 0 given) t d → AreTypes d.insts types → names ≡ named_files d types → others ≡ map (fin.get files) names → (r : Result DesignSource DescFault)
      → design.Merges r (numbered (given ∷ others)) → Describes r top files
  described_of law given t d types names others is describes are_types named given_so r merges = by r merges where
    are : AreFilesOf top files (numbered (given ∷ others))
    are = all_wanted given t d types names others is describes are_types named given_so

    by : (r : Result DesignSource DescFault) → design.Merges r (numbered (given ∷ others)) → Describes r top files
    by (Ok source) is_source = record { own = numbered (given ∷ others); are = are; is_source = is_source }
    by (Err e) first = refused_so e (builds_there top files (numbered (given ∷ others)) are (Err e) (design_refused law e (numbered (given ∷ others)) first))

  -- what is built of what they describe
  pub built_of : (source : DesignSource) (r : Result (List OutFile) DescFault) → IsDescribed top files source
      → ((given : List (Option (List ℕ))) → IsSourceOf (numbered given) source → chip.Builds r (numbered given)) → Builds r top files
  built_of source r described builds =
      builds_there top files described.own described.are r
      (subst (chip.Builds r) (sym described.are.are)
      (builds (map (fin.get files) described.are.names) (subst (λ own. IsSourceOf own source) described.are.are described.is_source)))

-- ---- how many other files there are

named_count : (d : TopDesc) (types : List (List ℕ)) → length (named_files d types) ≡ length d.xbars + length types
named_count d types =
    length-append (map (λ (u : XbarUse). crossbar_file u.name) d.xbars) (map block_file types)
    ∙ (λ i. length-map d.xbars (λ (u : XbarUse). crossbar_file u.name) i + length-map types block_file i)

pub others_count : {X : Type 0} (given : X → Option (List ℕ)) (others : List X) (files : Files) (names : List (List ℕ)) (d : TopDesc) (types : List (List ℕ))
    → map given others ≡ map (fin.get files) names → names ≡ named_files d types → length others ≡ length d.xbars + length types
others_count given others files names d types same named =
    sym (length-map others given) ∙ ap length same ∙ length-map names (fin.get files) ∙ ap length named ∙ named_count d types
