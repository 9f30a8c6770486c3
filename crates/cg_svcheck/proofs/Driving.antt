-- Whether nets are driven well, by a list of all drivers and the set of their names.
use Rattle.std.proofs.Common.{◌≡◌, ℕ, Bool, true, false, ◌&&◌, ◌||◌, ltb, List, [], ◌∷◌, ◌++◌, Option, Bor, ap, refl, ◌∙◌}
use Rattle.std.specs.Bool.{Decides, one_answer}
use Rattle.std.specs.List.{list_all}
use Rattle.std.specs.Option.{is_some, option_copied}
use Rattle.cg_svspec.specs.Tree.{Entry, wire, drive, assign, inst, Module}
use Rattle.cg_svspec.specs.Names.{Differ, first_repeat, is_among, module_names}
use Rattle.cg_svspec.specs.Printable.{IsPrintable}
use Rattle.cg_svspec.specs.WellFormed.{WellFormed, drivers_of, inputs_of, instance_driven}
use Rattle.cg_svcheck.specs.Counting.{is_driven, is_port_driven, is_wire_driven, instances_count}
use Rattle.cg_svcheck.specs.Fitting.{entries_fit}
use Rattle.cg_svcheck.specs.Lookups.{AreDrivenWell, is_port_in, is_wire_in}
use Rattle.cg_svcheck.specs.Widths.{is_known}
use Rattle.cg_svcheck.proofs.CountLemmas.{count, counted_decides}
use Rattle.cg_svcheck.proofs.CountsDecide.{driven_decides, instances_are, ports_decide, wires_decide}
use Rattle.cg_svcheck.proofs.Deciding.{decides_among, decides_as, decides_both, decides_false}
use Rattle.cg_svcheck.proofs.FormLemmas.{decided}
use Rattle.cg_svcheck.proofs.Moving.{no_repeat, some_repeat}
use Rattle.cg_svcheck.proofs.WholeDecides.{fit_decides}

-- a set of the drivers' names tells what is driven
same_driven : (m : Module) (drivers : List (List ℕ)) (set : List ℕ → Bool) → drivers ≡ drivers_of m → ((n : List ℕ) → set n ≡ is_among drivers n) → set ≡ is_driven m
same_driven m drivers set are is = λ i n. one n i where
  one : (n : List ℕ) → set n ≡ is_driven m n
  one n = is n ∙ ap (λ ns. is_among ns n) are ∙ one_answer (is_among (drivers_of m) n) (is_driven m n) (decides_among (drivers_of m) n) (driven_decides m n)

wires_same : (m : Module) (es : List Entry) → list_all (is_wire_in (is_driven m)) es ≡ list_all (is_wire_driven m) es
wires_same m [] = refl
wires_same m (wire w n ∷ es) = ap (λ t. is_driven m n && t) (wires_same m es)
wires_same m (drive w n x ∷ es) = ap (λ t. is_driven m n && t) (wires_same m es)
wires_same m (assign n x ∷ es) = wires_same m es
wires_same m (inst k ps n cs ∷ es) = wires_same m es

-- where no net has two drivers, the set decides
pub driven_decide : (m : Module) (drivers : List (List ℕ)) (found : Option (Bor (List ℕ))) (set : List ℕ → Bool) (answer : Bool) → drivers ≡ drivers_of m → option_copied found ≡ first_repeat drivers → is_some found ≡ false
    → ((n : List ℕ) → set n ≡ is_among drivers n) → answer ≡ (list_all (is_port_in set) m.ports && list_all (is_wire_in set) m.entries) → Decides answer (AreDrivenWell m)
driven_decide m drivers found set answer are repeat none is told =
    let same = same_driven m drivers set are is in
    let differ : Differ (drivers_of m) = no_repeat (drivers_of m) found (repeat ∙ ap first_repeat are) none in
    decides_as
    (decided answer (list_all (is_port_driven m) m.ports && list_all (is_wire_driven m) m.entries)
    (told ∙ ap (λ s. list_all (is_port_in s) m.ports && list_all (is_wire_in s) m.entries) same ∙ ap (λ t. list_all (is_port_driven m) m.ports && t) (wires_same m m.entries))
    (decides_both (ports_decide m m.ports) (wires_decide m m.entries))) (λ h. (differ, h)) (λ h. h.1)

-- and where one has, it does not
pub repeated : (m : Module) (drivers : List (List ℕ)) (found : Option (Bor (List ℕ))) → drivers ≡ drivers_of m → option_copied found ≡ first_repeat drivers → is_some found ≡ true → Decides false (AreDrivenWell m)
repeated m drivers found are repeat some = decides_false (λ h. some_repeat (drivers_of m) found (repeat ∙ ap first_repeat are) some h.0)

-- ---- what is known above all entries

-- a name is among others where it is counted
counted : (n : List ℕ) (ms : List (List ℕ)) → is_among ms n ≡ ltb 0 (count n ms)
counted n ms = one_answer (is_among ms n) (ltb 0 (count n ms)) (decides_among ms n) (counted_decides n ms)

-- one test for two lists
among_both : (n : List ℕ) (xs ys : List (List ℕ)) → is_among (xs ++ ys) n ≡ (is_among xs n || is_among ys n)
among_both n [] ys = refl
among_both n (x ∷ xs) ys = by _ (among_both n xs ys) where
  by : (b : Bool) → is_among (xs ++ ys) n ≡ (is_among xs n || is_among ys n) → (b || is_among (xs ++ ys) n) ≡ ((b || is_among xs n) || is_among ys n)
  by true is = refl
  by false is = is

or_false : (a : Bool) → a ≡ (a || false)
or_false true = refl
or_false false = refl

pub known_first : (m : Module) (names : List (List ℕ)) (set : List ℕ → Bool) → names ≡ inputs_of m.ports ++ instance_driven (inputs_of m.ports) m.entries → ((n : List ℕ) → set n ≡ is_among names n)
    → (n : List ℕ) → set n ≡ is_known m [] n
unfolding is_known
known_first m names set are is n =
    is n
    ∙ ap (λ ns. is_among ns n) are
    ∙ among_both n (inputs_of m.ports) (instance_driven (inputs_of m.ports) m.entries)
    ∙ ap (λ t. is_among (inputs_of m.ports) n || t)
    (counted n (instance_driven (inputs_of m.ports) m.entries)
    ∙ ap (ltb 0) (instances_are (inputs_of m.ports) n m.entries)
    ∙ or_false (ltb 0 (instances_count (inputs_of m.ports) n m.entries)))

-- ---- the whole

pub no_module : (m : Module) (b : Bool) → Decides b (IsPrintable m) → b ≡ false → Decides false (WellFormed m)
no_module m b decides is = decides_false (λ w. let e = decides.1 w.printable in cc)

pub no_names : (m : Module) (b : Bool) → Decides b (Differ (module_names m)) → b ≡ false → Decides false (WellFormed m)
no_names m b decides is = decides_false (λ w. let e = decides.1 w.names_differ in cc)

pub no_drivers : (m : Module) (b : Bool) → Decides b (AreDrivenWell m) → b ≡ false → Decides false (WellFormed m)
no_drivers m b decides is =
    decides_false (λ w. let e = decides.1 (w.drivers_differ, ((w.outputs_driven, w.inputs_free), w.wires_driven)) in cc)

pub all_decide : (m : Module) (printable differ driven answer : Bool) → Decides printable (IsPrintable m) → printable ≡ true → Decides differ (Differ (module_names m)) → differ ≡ true
    → Decides driven (AreDrivenWell m) → driven ≡ true → answer ≡ entries_fit m [] m.entries → Decides answer (WellFormed m)
all_decide m printable differ driven answer d p e q f r is =
    let prints : IsPrintable m = d.0 p in
    let apart : Differ (module_names m) = e.0 q in
    let well : AreDrivenWell m = f.0 r in
    decides_as (decided answer (entries_fit m [] m.entries) is (fit_decides m prints apart)) (λ fit. record {
      printable = prints;
      names_differ = apart;
      entries_fit = fit;
      drivers_differ = well.0;
      outputs_driven = well.1.0.0;
      wires_driven = well.1.1;
      inputs_free = well.1.0.1;
    }) (λ w. w.entries_fit)
