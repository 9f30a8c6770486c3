-- What is due for a command that reads one description.
use Rattle.std.proofs.Common.{◌≡◌, ◌<◌, ℕ, List, [], ◌∷◌, length, Option, Some, None, refl, ap, ◌∙◌, subst, inl, inr}
use Rattle.cg_svspec.specs.Names.{Among}
use Rattle.cg_desc.specs.FaultText.{fault_line}
use Rattle.cg_desc.specs.Faults.{Before}
use Rattle.cg_desc.specs.declared.fault.DescFault.{DescFault}
use Rattle.cg_desc.specs.declared.fault.DescFault.TheVariants.{Fault as refused_by}
use Rattle.cg_desc.specs.declared.fault.Fault.{Fault}
use Rattle.cg_finding.specs.Finding.{Finding, in_file}
use Rattle.cg_finding.specs.Refusal.{Names}
use Rattle.cg_finding.specs.Rules as rules
use Rattle.cg_finding.specs.Violations.{IsFirstViolation, IsFirstFault, RefusesFirst}
use Rattle.cg_files.specs.Files.{File, BreaksFile, limit}
use Rattle.cg_files.proofs.FirstOnes.{first_absent, first_large, named}
use Rattle.cg_outputs.specs.declared.out_file.OutFile.{OutFile}
use Rattle.cg_outputs.specs.Outputs.{AreOutputs}
use Rattle.cg_gen.specs.declared.due.Status.TheVariants.{Refused}
use Rattle.cg_gen.specs.declared.due.Due.{Due}
use Rattle.cg_deeds.specs.Told.{line}
use Rattle.cg_gen.specs.Due.{due_of_line, due_of_outputs}
use Rattle.cg_gen.specs.Inner.{only_file, IsDueFor, refuses as refused, builds as built}
use Rattle.cg_gen.specs.OneFile.{Violates, IsGood, IsOutput}
use Rattle.cg_gen.specs.Reads.{Read, read, files_of}

-- the file of a single read
pub only_read : (r : Read) (file : File) → Among file (files_of (r ∷ [])) → file ≡ only_file r.given
only_read r file (inl is) = is
only_read r file (inr none) = absurd none

-- a single output
pub alone_are : (o : OutFile) → AreOutputs (λ x. x ≡ o) (o ∷ [])
alone_are o = record {
  member = λ x. ((λ among. elim among [ inl is ↦ is | inr none ↦ absurd none ]), (λ is. inl is));
  rises = ((λ p none. absurd none), tt);
}

-- ---- what is broken

module _ (Breaks : File → Finding → Type 0) where
  -- what a file breaks before it has a tree is the first of all that it breaks
  abbrev pub FileFirst : Type 0
  FileFirst = (file : File) (e : DescFault) → RefusesFirst e file.number (BreaksFile file) → RefusesFirst e file.number (Breaks file)

  -- an absent file, and one that is too large
  pub absent_refused : FileFirst → (e : DescFault) → Names e 0 rules.file_absent → RefusesFirst e 0 (Breaks (only_file None))
  absent_refused lift e names = lift (only_file None) e (named e 0 _ _ names (first_absent (only_file None) refl))

  pub large_refused : FileFirst → (e : DescFault) (bytes : List ℕ) → limit < length bytes → Names e 0 rules.file_too_large → RefusesFirst e 0 (Breaks (only_file (Some bytes)))
  large_refused lift e bytes many names = lift (only_file (Some bytes)) e (named e 0 _ _ names (first_large (only_file (Some bytes)) bytes refl (inl many)))

  -- the first that the file breaks is the first fault of the build
  pub first_fault : (r : Read) (f : Finding) → IsFirstViolation (Breaks (only_file r.given)) f → IsFirstFault (Violates Breaks (r ∷ [])) (in_file 0 f)
  first_fault r f first = record {
    violates = record { file = only_file r.given; among = inl refl; broken = f; breaks = first.violates; is_fault = refl };
    least = λ g v before.
        let same = only_read r v.file v.among in
        let breaks = subst (λ file. Breaks file v.broken) same v.breaks in
        let fault : g ≡ in_file 0 v.broken = v.is_fault ∙ ap (λ (file : File). in_file file.number v.broken) same in
        first.least 0 v.broken breaks (subst (λ x. Before x (in_file 0 f)) fault before);
  }

-- ---- what is described

module _ {X : Type 0} (Breaks : File → Finding → Type 0) (Describes : File → X → Type 0) (IsAskedFor : X → OutFile → Type 0) where
  -- what describes something breaks nothing
  abbrev pub Unbroken : Type 0
  Unbroken = (file : File) (x : X) (f : Finding) → Describes file x → ¬ Breaks file f

  -- and describes nothing else
  abbrev pub IsOne : Type 0
  IsOne = (file : File) (x y : X) → Describes file x → Describes file y → x ≡ y

  pub no_fault : Unbroken → (r : Read) (x : X) → Describes (only_file r.given) x → (fault : Fault) → ¬ Violates Breaks (r ∷ []) fault
  no_fault unbroken r x is fault v =
      unbroken (only_file r.given) x v.broken is (subst (λ file. Breaks file v.broken) (only_read r v.file v.among) v.breaks)

  -- the description is good
  pub is_good : (r : Read) (x : X) → Describes (only_file r.given) x → IsGood Describes (r ∷ [])
  is_good r x is = record { file = only_file r.given; among = inl refl; described = x; is_good = is }

  asked_here : IsOne → (r : Read) (x : X) → Describes (only_file r.given) x → (o : OutFile) → IsOutput Describes IsAskedFor (r ∷ []) o → IsAskedFor x o
  asked_here one r x is o out =
      let there = subst (λ file. Describes file out.described) (only_read r out.file out.among) out.is_good in
      subst (λ y. IsAskedFor y o) (one (only_file r.given) out.described x there is) out.is_asked_for

  asked_there : (r : Read) (x : X) → Describes (only_file r.given) x → (o : OutFile) → IsAskedFor x o → IsOutput Describes IsAskedFor (r ∷ []) o
  asked_there r x is o asked = record { file = only_file r.given; among = inl refl; described = x; is_good = is; is_asked_for = asked }

  -- what is asked for of it is what is written
  pub outputs_are : IsOne → (r : Read) (x : X) (os : List OutFile) → Describes (only_file r.given) x → AreOutputs (IsAskedFor x) os → AreOutputs (IsOutput Describes IsAskedFor (r ∷ [])) os
  outputs_are one r x os is are = record {
    member = λ o. ((λ among. asked_there r x is o ((are.member o).0 among)), (λ out. (are.member o).1 (asked_here one r x is o out)));
    rises = are.rises;
  }

  -- and what is written is what is asked for of it
  pub asked_for : IsOne → (r : Read) (x : X) (os : List OutFile) → Describes (only_file r.given) x → AreOutputs (IsOutput Describes IsAskedFor (r ∷ [])) os → AreOutputs (IsAskedFor x) os
  asked_for one r x os is are = record {
    member = λ o. ((λ among. asked_here one r x is o ((are.member o).0 among)), (λ asked. (are.member o).1 (asked_there r x is o asked)));
    rises = are.rises;
  }

  -- ---- what is due

  abbrev IsDue : List ℕ → Read → Due → Type 0
  IsDue dir r d = IsDueFor (Violates Breaks (r ∷ [])) (IsGood Describes (r ∷ [])) (AreOutputs (IsOutput Describes IsAskedFor (r ∷ []))) dir (r ∷ []) d

  -- the first fault is told
  pub fault_told : (dir file : List ℕ) (g : Option (List ℕ)) (fault : Fault) (e : DescFault) (d : Due) → e ≡ refused_by fault → RefusesFirst e 0 (Breaks (only_file g))
      → d ≡ due_of_line (line (fault_line file fault)) Refused → IsDue dir (read file g) d
  fault_told dir file g fault e d is refuses told = by (subst (λ x. RefusesFirst x 0 (Breaks (only_file g))) is refuses) where
    by : (f : Finding) × (fault ≡ in_file 0 f) × IsFirstViolation (Breaks (only_file g)) f → IsDue dir (read file g) d
    by (f, same, first) =
        refused (in_file 0 f) (first_fault Breaks (read file g) f first) (told ∙ ap (λ x. due_of_line (line (fault_line file x)) Refused) same)

  -- the outputs are written
  pub outputs_told : Unbroken → IsOne → (dir file : List ℕ) (g : Option (List ℕ)) (x : X) (os : List OutFile) (d : Due) → Describes (only_file g) x
      → AreOutputs (IsAskedFor x) os → d ≡ due_of_outputs dir os → IsDue dir (read file g) d
  outputs_told unbroken one dir file g x os d is are told =
      built os (no_fault unbroken (read file g) x is) (is_good (read file g) x is) (outputs_are one (read file g) x os is are) told
