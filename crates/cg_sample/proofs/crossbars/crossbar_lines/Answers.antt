use Rattle.std.proofs.Common.{ℕ, List, ◌++◌, [], ◌∷◌, map, codes, ap, ◌∙◌}
use Rattle.cg_sample.specs.Sample.{crossbar_lines, hosts_line, name_line, node_line, target_line}
use Rattle.cg_sample.proofs.Counting.{regrouped}
use Rattle.cg_sample.proofs.crossbars.crossbar_lines.Goals as goal

-- the lines stand behind each other as they were added
pub returns : goal.returns
unfolding crossbar_lines
returns c =
    let devices = c.args.devices.now in
    let nodes = map (node_line c.args.device_kind.now) devices in
    let targets = map target_line devices in
    let first : List ℕ → List ℕ → List (List ℕ) = λ name node. codes "{" ∷ name ∷ codes "  clock: 'clk_i'" ∷ codes "  nodes: [" ∷ node ∷ [] in
    let middle : List ℕ → List (List ℕ) = λ hosts. codes "  ]" ∷ codes "  connections: {" ∷ hosts ∷ [] in
    let last : List (List ℕ) = codes "    ]" ∷ codes "  }" ∷ codes "}" ∷ [] in
    let name = c.deref.ensures ∙ c.in_ok-name.ensures in
    let node = c.deref-2.ensures ∙ c.in_ok-node.ensures in
    let hosts = c.deref-3.ensures ∙ c.in_ok-hosts.ensures in
    c.in_ok-add_all-3.ensures
    ∙ ap (λ lines. lines ++ last) c.in_ok-add_targets.ensures
    ∙ ap (λ lines. (lines ++ targets) ++ last) c.in_ok-add_all-2.ensures
    ∙ ap (λ lines. ((lines ++ middle c.deref-3.result.now) ++ targets) ++ last) c.in_ok-add_nodes.ensures
    ∙ ap (λ lines. (((lines ++ nodes) ++ middle c.deref-3.result.now) ++ targets) ++ last) c.in_ok-add_all.ensures
    ∙ ap (λ lines. ((((lines ++ first c.deref.result.now c.deref-2.result.now) ++ nodes) ++ middle c.deref-3.result.now) ++ targets) ++ last) c.new-lines.ensures
    ∙ (λ i. (((first (name i) (node i) ++ nodes) ++ middle (hosts i)) ++ targets) ++ last)
    ∙ regrouped (first (name_line c.args.name.now) (node_line c.args.host_kind.now c.args.host.now) ++ nodes) (middle (hosts_line c.args.host.now)) targets last
