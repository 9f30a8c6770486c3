use Rattle.cg_keep.proofs.build.build_source.Goals as goal

-- what is computed has texts
pub build-requires : goal.build-requires
build-requires c = c.in-Ok.ensures.has_texts c.requires.described.0 c.requires.described.1
