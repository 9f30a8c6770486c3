-- A clash that is told is the one that is found.
use Rattle.std.proofs.Common.{◌≡◌, ◌<◌, ℕ, List, Option, Some, None, Result, Ok, Err, refl, sym, ap, subst, ◌∙◌}
use Rattle.std.specs.Option.{option_map}
use Rattle.cg_desc.specs.declared.fault.DescFault.{DescFault}
use Rattle.cg_desc.specs.declared.fault.DescFault.TheVariants as refusal
use Rattle.cg_desc.specs.declared.fault.Fault.{Fault}
use Rattle.cg_desc.specs.declared.place.At.{At}
use Rattle.cg_finding.specs.Finding.{in_file}
use Rattle.cg_finding.specs.Refusal.{Names}
use Rattle.cg_finding.specs.Rules as rules
use Rattle.cg_sv.specs.declared.fault.SvRegFault.{SvRegFault}
use Rattle.cg_sv.specs.declared.fault.SvRegFault.TheVariants as fault
use Rattle.cg_chip.specs.Inner.{Tells, or_later}

-- a refusal by what is found, whatever else would have been answered
abbrev pub Told : DescFault → Option Fault → Type 0
Told e found = Tells {X = ℕ} (Err e) found

-- the fault of a name that comes twice, if any
abbrev pub clash_at : ℕ → At → Option (List ℕ) → Option Fault
clash_at file at name = option_map (λ n. in_file file (rules.names_clash at n)) name

pub clash_told : (e : DescFault) (file : ℕ) (at : At) (name : List ℕ) (found : Option (List ℕ)) → Names e file (rules.names_clash at name) → found ≡ Some name
    → Told e (clash_at file at found)
clash_told (refusal.Fault f) file at name found names is = ap (clash_at file at) is ∙ ap Some (sym names)
clash_told refusal.Memory file at name found names is = tt

pub none_told : (file : ℕ) (at : At) (found : Option (List ℕ)) → found ≡ None → clash_at file at found ≡ None
none_told file at found is = ap (clash_at file at) is

-- a refusal of a part is one of the whole
pub told_of_part : (e : DescFault) (part whole : Option Fault) → ((f : Fault) → part ≡ Some f → whole ≡ Some f) → Told e part → Told e whole
told_of_part (refusal.Fault f) part whole up tells = up f tells
told_of_part refusal.Memory part whole up tells = tt

pub told_first : (e : DescFault) (first later : Option Fault) → Told e first → Told e (or_later first later)
told_first e first later tells = told_of_part e first (or_later first later) (λ f is. ap (λ o. or_later o later) is) tells

pub told_later : (e : DescFault) (first later : Option Fault) → first ≡ None → Told e later → Told e (or_later first later)
told_later e first later none tells = told_of_part e later (or_later first later) (λ f is. ap (λ o. or_later o later) none ∙ is) tells
