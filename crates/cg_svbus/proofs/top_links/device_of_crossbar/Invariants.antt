use Rattle.std.proofs.Common.{◌≡◌, drop, map, ◌&&◌, not}
use Rattle.std.specs.Prelude.{find}
use Rattle.cg_svbus.specs.TopViewed.{node_id_of}
use Rattle.cg_topspec.specs.Top.{is_host, end_of, is_crossbar}
use Rattle.cg_svbus.proofs.top_links.device_of_crossbar.Given as goal

-- the first of the nodes that are left is the first of all
abbrev pub invariant-loop-id : goal.invariant-loop-id
invariant-loop-id l = find (λ n. not (is_host l.top n) && is_crossbar l.xbar (end_of l.top n)) (map node_id_of (drop l.id-index l.among)) ≡ find (λ n. not (is_host l.top n) && is_crossbar l.xbar (end_of l.top n)) (map node_id_of l.among)
