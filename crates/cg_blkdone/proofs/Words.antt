-- The words of the kinds of access are read back.
use Rattle.std.proofs.Common.{◌≡◌, ℕ, List, Option, Some, None, codes, bytes_eq, refl}
use Rattle.std.proofs.lemmas.Bool.{cond_both}
use Rattle.cg_desc.specs.declared.block.SwAccess.{SwAccess}
use Rattle.cg_desc.specs.declared.block.SwAccess.TheVariants as software_access
use Rattle.cg_desc.specs.declared.block.HwAccess.{HwAccess}
use Rattle.cg_desc.specs.declared.block.HwAccess.TheVariants as hardware_access
use Rattle.cg_keys.specs.Forms.{hardware, software, window_access}
use Rattle.cg_blkdone.specs.Full.{hardware_word, software_word}

-- how software accesses a field
pub software_back : (k : SwAccess) → software (software_word k) ≡ Some k
unfolding software software_word
software_back software_access.Ro = refl
software_back software_access.Rc = refl
software_back software_access.Rw = refl
software_back software_access.R0w1c = refl
software_back software_access.Rw1s = refl
software_back software_access.Rw1c = refl
software_back software_access.Rw0c = refl
software_back software_access.Wo = refl
software_back software_access.Nothing = refl

-- how hardware accesses a field
pub hardware_back : (k : HwAccess) → hardware (hardware_word k) ≡ Some k
unfolding hardware hardware_word
hardware_back hardware_access.Hro = refl
hardware_back hardware_access.Hrw = refl
hardware_back hardware_access.Hwo = refl
hardware_back hardware_access.Nothing = refl

-- how software may access a window
abbrev pub AccessesWindow : SwAccess → Type 0
AccessesWindow k = window_access (software_word k) ≡ Some k

-- such a kind, if there is one
abbrev pub AccessesWindowIf : Option SwAccess → Type 0
AccessesWindowIf None = Unit {0}
AccessesWindowIf (Some k) = AccessesWindow k

-- by default software reads and writes it
pub window_by_default : AccessesWindow software_access.Rw
unfolding window_access software_word
window_by_default = refl

-- each word that a window's access is read from
pub window_words : (s : List ℕ) → AccessesWindowIf (window_access s)
unfolding window_access software_word
window_words s =
    cond_both (bytes_eq s (codes "rw")) (Some software_access.Rw) _ AccessesWindowIf (λ is. refl) (λ is.
    cond_both (bytes_eq s (codes "ro")) (Some software_access.Ro) _ AccessesWindowIf (λ is. refl) (λ is.
    cond_both (bytes_eq s (codes "wo")) (Some software_access.Wo) None AccessesWindowIf (λ is. refl) (λ is. tt)))
