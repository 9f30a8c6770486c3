-- The interfaces of a block that has names.
use Rattle.std.proofs.Common.{ℕ, zero, suc, ◌<◌, List, [], ◌∷◌, length, get_or, arith}
use Rattle.cg_svspec.specs.Printable.{AllOf}
use Rattle.cg_desc.specs.Laid.{IsLaid}
use Rattle.cg_desc.specs.Valid.{IsNameIfAny}
use Rattle.cg_desc.specs.declared.block.LaidBlock.{LaidBlock}
use Rattle.cg_hdrspec.specs.Laws.{IsNamed}
use Rattle.cg_svreg.specs.Interface.{interface}

one_of : {A : Type 0} (P : A → Type 0) (xs : List A) (i : ℕ) (d : A) → AllOf P xs → i < length xs → P (get_or xs i d)
one_of P [] i d all h = absurd (omega (arith, h))
one_of P (x ∷ xs) zero d all h = all.0
one_of P (x ∷ xs) (suc i) d all h = one_of P xs i d all.1 (omega (arith, h))

-- each has a good name if any, and is laid out
pub interface_named : (block : LaidBlock) (i : ℕ) → IsNamed block → i < length block.faces → IsNameIfAny (interface block i).name × IsLaid (interface block i)
interface_named block i named h = one_of (λ face. IsNameIfAny face.name × IsLaid face) block.faces i _ named.interfaces h
