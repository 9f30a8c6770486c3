use Rattle.std.proofs.Common.{◌≡◌, ◌+◌}
use Rattle.cg_regspec.specs.RegisterModule.{window_terms}
use Rattle.cg_svreg.specs.Parts.{above}
use Rattle.cg_svreg.proofs.hits.window_terms.Given as goal

-- the terms so far, and then those of the bits that are left, are all terms
abbrev pub invariant-loop-bit : goal.invariant-loop-bit
invariant-loop-bit l = record {
  terms : above l.terms (window_terms l.bit l.left l.word) ≡ window_terms 23 l.items l.first;
  whole : l.word + l.left ≡ l.first + l.items;
}
