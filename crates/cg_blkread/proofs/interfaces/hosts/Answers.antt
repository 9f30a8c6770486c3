use Rattle.std.proofs.Common.{[], ◌++◌, map, ap, sym, ◌∙◌, ◌≡◌, drop, List}
use Rattle.std.proofs.lemmas.List.{append-nil, drop_all}
use Rattle.std.specs.List.{filter}
use Rattle.cg_hjson.specs.declared.tree.Tree.{Tree}
use Rattle.cg_blkread.specs.Interfaces.{hosts, interfaces, is_host}
use Rattle.cg_blkread.proofs.interfaces.hosts.Goals as goal

pub returns : goal.returns
unfolding hosts interfaces
returns c =
    let found : List Tree = map (λ t. t.now) c.loop-interface.found.items in
    let none : drop c.loop-interface.interface-index c.elements-interface-items.result.now ≡ [] = drop_all _ _ c.loop-interface-test.false in
    sym (ap (λ ts. found ++ filter is_host ts) none ∙ append-nil found) ∙ c.loop-interface.invariant ∙ ap (filter is_host) c.elements-interface-items.ensures
