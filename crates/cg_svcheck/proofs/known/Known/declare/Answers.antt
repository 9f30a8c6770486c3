use Rattle.std.proofs.Common.{refl, sym, ap, ◌∙◌}
use Rattle.std.specs.Str.{bytes_eq}
use Rattle.std.proofs.lemmas.Map.Text.{hash_map_updates_str}
use Rattle.cg_svspec.proofs.NamesLemmas.{same_name}
use Rattle.cg_svcheck.specs.Lookups.{width_in}
use Rattle.cg_svcheck.proofs.Moving.{width_new}
use Rattle.cg_svcheck.proofs.known.Known.declare.Goals as goal

pub returns-in_ok-insert-in-None : goal.returns-in_ok-insert-in-None
returns-in_ok-insert-in-None c = record {
  widths_are = λ n.
      width_new c.args.width (bytes_eq c.args.name.now n) _ _
      (hash_map_updates_str c.args.name.now c.args.self.now.widths c.insert.new.self _ c.in_ok-insert-in-None.ensures.updates n)
      (λ same. ap (width_in c.args.self.now) (sym (same_name c.args.name.now n same)) ∙ sym c.width.ensures ∙ c.in-None.is);
  known_are = λ n. refl;
}
