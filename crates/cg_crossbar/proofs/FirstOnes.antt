-- What a stage finds first is what the whole file breaks first.
use Rattle.std.proofs.Common.{◌≡◌, ℕ, List, Some, Result, Ok, Err, sym, ◌∙◌, ap, subst}
use Rattle.cg_desc.specs.Merged.{alone}
use Rattle.cg_desc.specs.declared.crossbar.XbarDesc.{XbarDesc}
use Rattle.cg_desc.specs.declared.fault.Fault.{Fault}
use Rattle.cg_desc.specs.declared.top.MergedTop.{MergedTop}
use Rattle.cg_desc.specs.declared.fault.DescFault.{DescFault}
use Rattle.cg_desc.specs.declared.fault.DescFault.TheVariants as refusal
use Rattle.cg_finding.specs.Finding.{Finding, in_file}
use Rattle.cg_finding.specs.Rules as rules
use Rattle.cg_finding.specs.Violations.{IsFirstViolation, IsFirstFault, RefusesFirst}
use Rattle.cg_finding.proofs.Stages.{lifted, only_first, finding_of, found_first}
use Rattle.cg_hjson.specs.declared.tree.Tree.{Tree}
use Rattle.cg_xbread.specs.Described.{crossbar_of}
use Rattle.cg_xbread.specs.Reads.{Reads}
use Rattle.cg_xbread.specs.Violations.{Violates as BreaksDescription}
use Rattle.cg_files.specs.Files.{File, HasTree, BreaksFile}
use Rattle.cg_files.proofs.OneTree.{same_tree, unbroken}
use Rattle.cg_space.specs.Answers.{Answers}
use Rattle.cg_space.specs.Violations.{Violates as BreaksRanges, circle, bad_range, overlap}
use Rattle.cg_crossbar.specs.Stages.{Describes}
use Rattle.cg_crossbar.specs.Outputs.{clash_of, written_ranges}
use Rattle.cg_crossbar.proofs.Ranges.{only_crossbar, spaced_unbroken}
use Rattle.cg_crossbar.proofs.Valid.{described_is_valid}
use Rattle.cg_crossbar.specs.Breaks.{BreaksCrossbar, of_file, of_description, IsSpaced, BreaksAlone, description, ranges, clash, ReadsCrossbar}

module _ (file : File) where
  -- ---- up to the description

  file_alone : (f g : Finding) → BreaksFile file f → BreaksCrossbar file g → BreaksFile file g
  file_alone f _ broken (of_file also) = also
  file_alone f _ broken (of_description t has also) = absurd (unbroken file t f has broken)

  pub file_first : (e : DescFault) → RefusesFirst e file.number (BreaksFile file) → RefusesFirst e file.number (BreaksCrossbar file)
  file_first e refuses = lifted (BreaksFile file) (BreaksCrossbar file) e file.number (λ f broken. of_file broken) file_alone refuses

  description_alone : (t : Tree) → HasTree file t → (f g : Finding) → BreaksDescription t f → BreaksCrossbar file g → BreaksDescription t g
  description_alone t has f _ broken (of_file {f = g} also) = absurd (unbroken file t g has also)
  description_alone t has f _ broken (of_description {f = g} u has' also) = subst (λ x. BreaksDescription x g) (same_tree file u t has' has) also

  -- the crossbar of the file's tree is the file's
  pub described : (t : Tree) (r : Result XbarDesc DescFault) → HasTree file t → Reads r file.number t → ReadsCrossbar r file
  described t (Ok x) has (sound, is) = record { tree = t; has_tree = has; sound = sound; is = is }
  described t (Err e) has refuses =
      lifted (BreaksDescription t) (BreaksCrossbar file) e file.number (λ f broken. of_description t has broken) (description_alone t has) refuses

  -- ---- the crossbar alone

  -- what describes a crossbar breaks nothing up to there, and describes no other
  pub sound : (x : XbarDesc) (f : Finding) → Describes file x → ¬ BreaksCrossbar file f
  sound x f is (of_file broken) = unbroken file is.tree f is.has_tree broken
  sound x f is (of_description t has broken) = is.sound f (subst (λ u. BreaksDescription u f) (same_tree file t is.tree has is.has_tree) broken)

  pub same : (x y : XbarDesc) → Describes file x → Describes file y → x ≡ y
  same x y is also = is.is ∙ ap (crossbar_of file.number) (same_tree file is.tree also.tree is.has_tree also.has_tree) ∙ sym also.is

  early : (f g : Finding) → BreaksCrossbar file f → BreaksAlone file g → BreaksCrossbar file g
  early f _ broken (description also) = also
  early f _ broken (ranges x is also) = absurd (sound x f is broken)
  early f _ broken (clash x is spaced also) = absurd (sound x f is broken)

  pub description_first : (e : DescFault) → RefusesFirst e file.number (BreaksCrossbar file) → RefusesFirst e file.number (BreaksAlone file)
  description_first e refuses = lifted (BreaksCrossbar file) (BreaksAlone file) e file.number (λ f broken. description broken) early refuses

  -- what its written ranges break, as it is found in the file
  abbrev pub InRanges : XbarDesc → Finding → Type 0
  InRanges x f = BreaksRanges (alone x) (in_file file.number f)

  among_ranges : (x : XbarDesc) → Describes file x → (f g : Finding) → InRanges x f → BreaksAlone file g → InRanges x g
  among_ranges x is f _ broken (description {f = g} also) = absurd (sound x g is also)
  among_ranges x is f _ broken (ranges {f = g} y is' also) = subst (λ z. InRanges z g) (same y x is' is) also
  among_ranges x is f _ broken (clash y is' spaced also) = absurd (spaced_unbroken y spaced (described_is_valid file y is') (in_file file.number f) (subst (λ z. InRanges z f) (same x y is is') broken))

  pub ranges_first : (x : XbarDesc) (e : DescFault) → Describes file x → RefusesFirst e file.number (InRanges x) → RefusesFirst e file.number (BreaksAlone file)
  ranges_first x e is refuses = lifted (InRanges x) (BreaksAlone file) e file.number (λ f broken. ranges x is broken) (among_ranges x is) refuses

  clash_only : (x : XbarDesc) (name : List ℕ) → Describes file x → IsSpaced x → clash_of x (written_ranges x) ≡ Some name
      → (g : Finding) → BreaksAlone file g → g ≡ rules.names_clash x.at name
  clash_only x name is spaced comes _ (description {f = g} also) = absurd (sound x g is also)
  clash_only x name is spaced comes _ (ranges {f = g} y is' also) = absurd (spaced_unbroken x spaced (described_is_valid file x is) (in_file file.number g) (subst (λ z. InRanges z g) (same y x is' is) also))
  clash_only x name is spaced comes _ (clash {name = other} y is' spaced' also) =
      let e : Some other ≡ Some name = sym also ∙ ap (λ z. clash_of z (written_ranges z)) (same y x is' is) ∙ comes in
      let told : other ≡ name = cc in
      ap (λ (z : XbarDesc). rules.names_clash z.at other) (same y x is' is) ∙ ap (rules.names_clash x.at) told

  -- a name that comes twice is told
  pub clash_first : (x : XbarDesc) (name : List ℕ) → Describes file x → IsSpaced x → clash_of x (written_ranges x) ≡ Some name
      → IsFirstViolation (BreaksAlone file) (rules.names_clash x.at name)
  clash_first x name is spaced comes = only_first (BreaksAlone file) _ (clash x is spaced comes) (clash_only x name is spaced comes)

-- ---- the ranges of a crossbar that stands alone

-- what its ranges break is told in its own file
in_own_file : (x : XbarDesc) (fault : Fault) → BreaksRanges (alone x) fault → fault.file ≡ x.file
in_own_file x _ (circle k n xbar node at in_circle) = ap (λ (z : XbarDesc). z.file) (only_crossbar x k xbar at.crossbar_is).1
in_own_file x _ (bad_range k n xbar node none at bad) = ap (λ (z : XbarDesc). z.file) (only_crossbar x k xbar at.crossbar_is).1
in_own_file x _ (overlap k n xbar node none at shared) = ap (λ (z : XbarDesc). z.file) (only_crossbar x k xbar at.crossbar_is).1

described_file : (file : File) (x : XbarDesc) → Describes file x → x.file ≡ file.number
unfolding crossbar_of
described_file file x is = ap (λ (z : XbarDesc). z.file) is.is

-- the first fault of its ranges is the first that they break in the file
pub ranges_refused : {X : Type 0} (file : File) (x : XbarDesc) (m : MergedTop) (e : DescFault) (IsRight : X → Type 0) → m ≡ alone x → Describes file x
    → Answers {X = X} (Err e) m IsRight → RefusesFirst e file.number (BreaksAlone file)
ranges_refused file x m (refusal.Fault fault) IsRight same is answers =
    let first : IsFirstFault (BreaksRanges (alone x)) fault = subst (λ t. IsFirstFault (BreaksRanges t) fault) same answers in
    let number : fault.file ≡ file.number = in_own_file x fault first.violates ∙ described_file file x is in
    ranges_first file x (refusal.Fault fault) is
    (finding_of fault, (λ i. in_file (number i) (finding_of fault)), found_first (BreaksRanges (alone x)) fault file.number number first)
ranges_refused file x m refusal.Memory IsRight same is answers = tt
