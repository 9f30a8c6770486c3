use Rattle.std.proofs.Common.{◌||◌, ap, sym, ◌∙◌}
use Rattle.cg_xbread.specs.Listed.{host_elements}
use Rattle.cg_xbread.proofs.Heard.{all_connections, key_known, key_unknown, lists_name, no_element, one_connection}
use Rattle.cg_keys.proofs.SeenNames.{has}
use Rattle.cg_xbread.proofs.ends.heard_in.Goals as goal

pub loop-connection-preserved-then-not-is_named : goal.loop-connection-preserved-then-not-is_named
loop-connection-preserved-then-not-is_named c = λ n.
    no_element (host_elements c.args.nodes.now) c.args.connections.now c.loop-connection.connection-index c.connection-item.result _ c.loop-connection.names.keys n
    c.loop-connection-test.true c.connection-item.is
    (key_unknown c.args.nodes.now c.connection-item.result.now c.as_str.result.now _ c.as_str.ensures c.is_named.ensures c.if-not-is_named.true)
    ∙ c.loop-connection.invariant n

pub loop-connection-preserved : goal.loop-connection-preserved
loop-connection-preserved c = λ n.
    one_connection (host_elements c.args.nodes.now) c.args.connections.now c.loop-connection.connection-index c.connection-item.result _ c.loop-connection.names.keys _ n
    c.loop-connection-test.true c.connection-item.is
    (c.in_ok-names.ensures n
    ∙ ap (λ es. has c.loop-connection.names.keys n || lists_name es n)
    (c.items.ensures ∙ sym (key_known c.args.nodes.now c.connection-item.result.now c.as_str.result.now _ c.as_str.ensures c.is_named.ensures c.if-not-is_named.false)))
    ∙ c.loop-connection.invariant n

pub returns : goal.returns
returns c = λ n.
    sym (all_connections (host_elements c.args.nodes.now) c.args.connections.now c.loop-connection.connection-index c.loop-connection.names.keys n c.loop-connection-test.false)
    ∙ c.loop-connection.invariant n
