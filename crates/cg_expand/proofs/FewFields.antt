-- A valid register has at most as many fields as a word has bits.
use Rattle.std.proofs.Common.{ℕ, ◌+◌, ◌≤◌, suc, List, [], ◌∷◌, length, arith}
use Rattle.cg_desc.specs.Laid.{FieldsFit}
use Rattle.cg_desc.specs.Valid.{IsValidRegister}
use Rattle.cg_desc.specs.declared.block.FieldDesc.{FieldDesc}
use Rattle.cg_desc.specs.declared.block.RegDesc.{RegDesc}

fields_from : (from : ℕ) (fs : List FieldDesc) → from ≤ 32 → FieldsFit from fs → length fs + from ≤ 32
fields_from from [] few fit = omega arith
fields_from from (f ∷ fs) few fit =
    let low : from ≤ f.lsb = fit.1 in
    let ordered : f.lsb ≤ f.msb = fit.2 in
    let top : suc f.msb ≤ 32 = omega (arith, fit.3) in
    let rest : length fs + suc f.msb ≤ 32 = fields_from (suc f.msb) fs top fit.5 in
    omega arith

pub few_fields : (r : RegDesc) → IsValidRegister r → length r.fields ≤ 32
few_fields r valid = let few : length r.fields + 0 ≤ 32 = fields_from 0 r.fields (omega arith) valid.fields in omega arith
