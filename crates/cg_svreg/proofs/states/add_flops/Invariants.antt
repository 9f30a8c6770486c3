use Rattle.std.proofs.Common.{◌≡◌, ◌++◌, drop, map}
use Rattle.cg_sv.specs.Views.{entry_of}
use Rattle.cg_regspec.specs.RegisterModule.{flops_of}
use Rattle.cg_svreg.proofs.states.add_flops.Given as goal

-- the entries so far, and then those of the fields that are left, are all entries
abbrev pub invariant-loop-field : goal.invariant-loop-field
invariant-loop-field l =
    map entry_of l.entries ++ flops_of l.register (drop l.field-index l.fields) ≡ map entry_of l.fn.entries ++ flops_of l.register l.fields
