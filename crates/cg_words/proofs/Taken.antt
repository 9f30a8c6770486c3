-- What an answer of `clap` says of the words.
use Rattle.std.proofs.Common.{◌≡◌, ◌≢◌, List, [], ◌∷◌, true, false, refl, ap, inl, inr, codes}
use Rattle.clap.specs.Walk.{Text}
use Rattle.clap.specs.Simple.{App, is_simple}
use Rattle.clap.specs.Faults.{fault_of, is_simple_and_free}
use Rattle.clap.specs.Kinds.{Kinds, IsAmong, HasKind}
use Rattle.clap.specs.Values.{kind_of}
use Rattle.clap.specs.declared.error.Error.{Error}
use Rattle.clap.specs.declared.error.kind.ErrorKind.{ErrorKind}
use Rattle.clap.specs.declared.error.kind.ErrorKind.TheVariants as kind
use Rattle.clap.proofs.WalkLemmas.{both}
use Rattle.cg_words.specs.Tools.{accepts, is_free_of_faults, build_app, probe_app, regtool_app, sample_app, tlgen_app}

-- each tool is a simple command, of which no argument has a rule on another
pub regtool_free : is_simple_and_free regtool_app ≡ true
unfolding regtool_app
regtool_free = refl

pub tlgen_free : is_simple_and_free tlgen_app ≡ true
unfolding tlgen_app
tlgen_free = refl

pub topgen_free : is_simple_and_free (build_app (codes "topgen")) ≡ true
unfolding build_app
topgen_free = refl

pub session_free : is_simple_and_free (build_app (codes "session")) ≡ true
unfolding build_app
session_free = refl

pub probe_free : is_simple_and_free probe_app ≡ true
unfolding probe_app
probe_free = refl

pub sample_free : is_simple_and_free sample_app ≡ true
unfolding sample_app
sample_free = refl

among_some : (k : ErrorKind) (ks : Kinds) → IsAmong k ks → is_free_of_faults ks ≡ false
among_some k [] h = absurd h
among_some k (x ∷ xs) h = refl

has_fault : (ks : Kinds) (e : Error) → HasKind ks e → kind_of e ≢ kind.OutOfMemory → is_free_of_faults ks ≡ false
has_fault ks e (inl memory) other = absurd (other memory)
has_fault ks e (inr among) other = among_some (kind_of e) ks among

-- what is refused, and not for want of memory, is not accepted
pub refused : (app : App) (words : List Text) (e : Error) → is_simple_and_free app ≡ true
    → (is_simple_and_free app ≡ true → HasKind (fault_of app words) e)
    → kind_of e ≢ kind.OutOfMemory → accepts app words ≡ false
refused app words e free fails other = has_fault (fault_of app words) e (fails free) other

-- what is read is accepted
pub taken : (app : App) (words : List Text) → is_simple_and_free app ≡ true
    → (is_simple_and_free app ≡ true → fault_of app words ≡ []) → accepts app words ≡ true
taken app words free none = ap is_free_of_faults (none free)

-- such a command is simple
pub free_simple : (app : App) → is_simple_and_free app ≡ true → is_simple app ≡ true
free_simple app free = (both (is_simple app) _ free).0
