use Rattle.std.proofs.Common.{◌≡◌, ◌++◌, drop, map}
use Rattle.cg_svspec.specs.Tree.{net}
use Rattle.cg_busspec.specs.CrossbarModule.{requests}
use Rattle.cg_sv.specs.Views.{expression_of}
use Rattle.cg_svxbar.specs.Viewed.{link_of}
use Rattle.cg_svxbar.proofs.instances.requests.Given as goal

-- the nets so far, and then those of the links that are left, are all nets
abbrev pub invariant-loop-link : goal.invariant-loop-link
invariant-loop-link l =
    map expression_of l.nets.items ++ map net (requests (map link_of (drop l.link-index l.links))) ≡ map net (requests (map link_of l.links))
