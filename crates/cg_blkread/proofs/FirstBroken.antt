-- From the first of each phase to what reading a block answers.
use Rattle.std.proofs.Common.{ℕ, ◌≡◌, List, Option, Some, None, sym, ap, ◌∙◌, subst}
use Rattle.std.specs.List.{flat_map}
use Rattle.cg_desc.specs.declared.fault.DescFault.{DescFault}
use Rattle.cg_desc.specs.declared.fault.DescFault.TheVariants.{Fault, Memory}
use Rattle.cg_hjson.specs.declared.tree.Tree.{Tree}
use Rattle.cg_finding.specs.Finding.{Finding, In, first_of, of_least_phase}
use Rattle.cg_finding.specs.Refusal.{Refuses}
use Rattle.cg_finding.specs.Violations.{RefusesFirst}
use Rattle.cg_finding.proofs.Firsts.{least_phase_is_here, least_phase_is_later, none_is_empty}
use Rattle.cg_blkread.specs.Keys.{key_faults}
use Rattle.cg_keys.specs.Values.{members_of}
use Rattle.cg_blkread.specs.Reads.{Violates, raw_entries, value_faults}
use Rattle.cg_blkread.specs.Values.{entry_values}
use Rattle.cg_blkread.specs.declared.raw.RawEntry.{RawEntry}
use Rattle.cg_blkread.proofs.Facts.Listed.{listed_violates, violates_listed}

-- a refusal that names the first of all that is broken
refused : (e : DescFault) (file : ℕ) (t : Tree) (fs : List Finding) → of_least_phase (key_faults t) (value_faults t) ≡ fs → Refuses e file fs
    → RefusesFirst e file (Violates t)
refused (Fault fault) file t fs is (f, names, first) = (
  f,
  names,
  record {
    violates = listed_violates t f (subst (In f) (sym is) first.among);
    least = λ (number : ℕ) (g : Finding) violates. first.least number g (subst (In g) is (violates_listed t g violates));
  },
)
refused Memory file t fs is refuses = tt

-- one that names the first of the rules on keys
pub refused_by_keys : (e : DescFault) (file : ℕ) (t : Tree) (f : Finding) → first_of (key_faults t) ≡ Some f → Refuses e file (key_faults t)
    → RefusesFirst e file (Violates t)
refused_by_keys e file t f is refuses = refused e file t (key_faults t) (least_phase_is_here (key_faults t) (value_faults t) f is) refuses

-- one that names the first of the rules on values, where none on keys is broken
pub refused_by_values : (e : DescFault) (file : ℕ) (t : Tree) → first_of (key_faults t) ≡ None → Refuses e file (value_faults t)
    → RefusesFirst e file (Violates t)
refused_by_values e file t none refuses = refused e file t (value_faults t) (least_phase_is_later (key_faults t) (value_faults t) none) refuses

-- where nothing comes first, nothing is broken
pub none_broken : (t : Tree) → first_of (key_faults t) ≡ None → first_of (value_faults t) ≡ None → (f : Finding) → ¬ Violates t f
none_broken t keys values f violates =
    subst (In f) (least_phase_is_later (key_faults t) (value_faults t) keys ∙ none_is_empty (value_faults t) values) (violates_listed t f violates)

-- the first of the rules on values, over the entries that were read
pub values_first : (t : Tree) (entries : List RawEntry) (o : Option Finding) → entries ≡ raw_entries (members_of t)
    → o ≡ first_of (flat_map entry_values entries) → first_of (value_faults t) ≡ o
unfolding value_faults
values_first t entries o read first = ap (λ es. first_of (flat_map entry_values es)) (sym read) ∙ sym first
