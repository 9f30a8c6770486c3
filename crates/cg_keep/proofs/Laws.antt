-- The laws of a top's files by their names.
use Rattle.std.proofs.Common.{subst, sym}
use Rattle.cg_chip.specs.Laws.{BuildIsOne, WhatIsWrittenMeans}
use Rattle.cg_chip.specs.Violations.{IsBuild}
use Rattle.cg_keep.specs.Laws.{BuiltBreaksNothing, BuiltIsOne, BuiltNamesDiffer, WhatIsBuiltMeans}
use Rattle.cg_keep.proofs.Texts.{written_differ}
use Rattle.cg_keep.proofs.Wanted.{broken_here, files_one}

pub built_one : BuildIsOne → BuiltIsOne
built_one law top files xs ys built also =
    law built.own xs ys built.build (subst (λ own. IsBuild own ys) (files_one top files also.own built.own also.are built.are) also.build)

pub built_breaks_nothing : BuiltBreaksNothing
built_breaks_nothing top files outputs f built broken = built.build.unbroken f (broken_here top files built.own built.are f broken)

pub built_names_differ : BuiltNamesDiffer
built_names_differ top files outputs built = written_differ built.build.chip outputs built.build.written

pub built_means : WhatIsWrittenMeans → WhatIsBuiltMeans
built_means law top files outputs built = record {
  own = built.own;
  are = built.are;
  chip = built.build.chip;
  is_chip = built.build.is_chip;
  written = built.build.written;
  means = law built.own built.build.chip built.build.is_chip built.build.unbroken;
}
