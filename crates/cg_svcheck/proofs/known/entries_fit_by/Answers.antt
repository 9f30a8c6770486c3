use Rattle.std.proofs.Common.{◌≡◌, ◌<◌, ◌∙◌, ap, length, get_or, map, subst}
use Rattle.cg_sv.specs.Views.{module_of, port_of}
use Rattle.cg_svcheck.proofs.Growing.{above_more, above_none, not_fitting}
use Rattle.cg_svcheck.proofs.known.entries_fit_by.Goals as goal

pub loop-entry-init : goal.loop-entry-init
loop-entry-init c =
    above_none (module_of c.args.«module».now) c.args.«module».now.entries (map port_of c.as_slice.result.now) c.new-nets.result c.add_ports.new.self (ap (map port_of) c.as_slice.ensures)
    (record { widths_are = c.new-nets.ensures.widths_are; known_are = λ n. c.new-nets.ensures.known_are n ∙ c.requires n }) c.in_ok-add_ports.ensures

pub returns-then-not-entry_fits : goal.returns-then-not-entry_fits
returns-then-not-entry_fits c =
    not_fitting (module_of c.args.«module».now) c.loop-entry.entry-index c.args.«module».now.entries c.loop-entry.nets c.entry-item.result c.entry_fits.result
    (subst (λ es. c.loop-entry.entry-index < length es) c.as_slice-entry-items.ensures c.loop-entry-test.true)
    (subst (λ es. c.entry-item.result ≡ get_or es c.loop-entry.entry-index c.entry-item.result) c.as_slice-entry-items.ensures c.entry-item.is)
    c.loop-entry.invariant c.entry_fits.ensures c.if-not-entry_fits.true

pub loop-entry-preserved : goal.loop-entry-preserved
loop-entry-preserved c =
    above_more (module_of c.args.«module».now) c.loop-entry.entry-index c.args.«module».now.entries c.loop-entry.nets c.add_entry.new.self c.entry-item.result c.entry_fits.result
    (subst (λ es. c.loop-entry.entry-index < length es) c.as_slice-entry-items.ensures c.loop-entry-test.true)
    (subst (λ es. c.entry-item.result ≡ get_or es c.loop-entry.entry-index c.entry-item.result) c.as_slice-entry-items.ensures c.entry-item.is)
    c.loop-entry.invariant c.entry_fits.ensures c.if-not-entry_fits.false c.in_ok-add_entry.ensures
