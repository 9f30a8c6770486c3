-- Tables that grow by ports and by entries.
use Rattle.std.proofs.Common.{◌≡◌, ℕ, suc, ◌+◌, ◌<◌, Bool, true, false, ◌&&◌, ◌||◌, ltb, List, [], ◌∷◌, ◌++◌, map, take, drop, drop-cons, add-one, get_or, length, Option, Some, None, ap, sym, refl, ◌∙◌}
use Rattle.std.specs.Str.{bytes_eq}
use Rattle.cg_svspec.specs.Tree.{Port, Module}
use Rattle.cg_svspec.specs.Tree as tree
use Rattle.cg_svspec.specs.WellFormed.{port_nets}
use Rattle.cg_sv.specs.Views.{entry_of}
use Rattle.cg_sv.specs.declared.tree.Entry.{Entry}
use Rattle.cg_svcheck.specs.Counting.{expressions_count, one_if}
use Rattle.cg_svcheck.specs.Fitting.{entries_fit, entry_fits}
use Rattle.cg_svcheck.specs.Lookups.{HasEntry, HasNets, known_in, width_in}
use Rattle.cg_svcheck.specs.Widths.{is_known, or_else, width_above, width_at, wire_nets}
use Rattle.cg_svcheck.specs.declared.known.Known.{Known}
use Rattle.cg_svcheck.proofs.EntriesDecide.{above_more as wider, known_more, or_nothing}
use Rattle.cg_svcheck.proofs.Stepping.{one_more, viewed}

-- `left` are the ports that are not declared yet
pub record PortsAdded (old new : Known) (left all : List Port) : Type 0 where
  pub widths : (n : List ℕ) → or_else (width_in new n) (width_at (port_nets left) n) ≡ or_else (width_in old n) (width_at (port_nets all) n)
  pub known : (n : List ℕ) → known_in new n ≡ known_in old n

-- the tables say what is declared and known above the entry of this number, and the entries from there on fit where all do
pub record Above (m : Module) (place : ℕ) (entries : List Entry) (nets : Known) : Type 0 where
  pub nets_are : HasNets nets (width_above m.ports (map entry_of (take place entries))) (is_known m (map entry_of (take place entries)))
  pub rest : entries_fit m (map entry_of (take place entries)) (map entry_of (drop place entries)) ≡ entries_fit m [] (map entry_of entries)

-- ---- the entries of a list, at a place

entries_here : (es : List Entry) (i : ℕ) (x : Entry) → i < length es → x ≡ get_or es i x → map entry_of (drop i es) ≡ entry_of x ∷ map entry_of (drop (i + 1) es)
entries_here es i x less is = ap (map entry_of) (drop-cons es i x less) ∙ rw add-one (ap (λ (y : Entry). entry_of y ∷ map entry_of (drop (suc i) es)) (sym is))

entries_taken : (es : List Entry) (i : ℕ) (x : Entry) → i < length es → x ≡ get_or es i x → map entry_of (take (i + 1) es) ≡ map entry_of (take i es) ++ entry_of x ∷ []
entries_taken es i x less is = let more = one_more es i x (drop (suc i) es) (drop-cons es i x less ∙ ap (λ (y : Entry). y ∷ drop (suc i) es) (sym is)) in rw add-one (ap (map entry_of) more.0 ∙ viewed (take i es) x)

-- ---- what is known one entry further down

-- how often one entry drives a net by an expression
at_most_one : (n : List ℕ) (x : tree.Entry) → (b : Bool) × (expressions_count n (x ∷ []) ≡ one_if b) × (ltb 0 (expressions_count n (x ∷ [])) ≡ b)
at_most_one n (tree.wire w m) = (false, refl, refl)
at_most_one n (tree.drive w m y) = by (bytes_eq m n) where
  by : (b : Bool) → (c : Bool) × (one_if b + 0 ≡ one_if c) × (ltb 0 (one_if b + 0) ≡ c)
  by true = (true, refl, refl)
  by false = (false, refl, refl)
at_most_one n (tree.assign m y) = by (bytes_eq m n) where
  by : (b : Bool) → (c : Bool) × (one_if b + 0 ≡ one_if c) × (ltb 0 (one_if b + 0) ≡ c)
  by true = (true, refl, refl)
  by false = (false, refl, refl)
at_most_one n (tree.inst m ps k cs) = (false, refl, refl)

known_further : (m : Module) (above : List tree.Entry) (x : tree.Entry) (n : List ℕ) → is_known m (above ++ x ∷ []) n ≡ (ltb 0 (expressions_count n (x ∷ [])) || is_known m above n)
known_further m above x n = let one = at_most_one n x in known_more m above x one.0 n one.1 ∙ ap (λ t. t || is_known m above n) (sym one.2)

-- the first of three widths
pub first_of : (a b c : Option ℕ) → or_else (or_else a b) c ≡ or_else a (or_else b c)
first_of None b c = refl
first_of (Some w) b c = refl

-- ---- from what is known at first

pub above_none : (m : Module) (entries : List Entry) (ps : List Port) (first nets : Known) → ps ≡ m.ports → HasNets first (λ n. None) (is_known m [])
    → HasNets nets (λ n. or_else (width_in first n) (width_at (port_nets ps) n)) (known_in first) → Above m 0 entries nets
unfolding width_above
above_none m entries ps first nets same start ports = record {
  nets_are = record {
    widths_are = λ n.
        ports.widths_are n
        ∙ ap (λ w. or_else w (width_at (port_nets ps) n)) (start.widths_are n)
        ∙ ap (λ qs. width_at (port_nets qs) n) same
        ∙ sym (or_nothing (width_at (port_nets m.ports) n));
    known_are = λ n. ports.known_are n ∙ start.known_are n;
  };
  rest = refl;
}

-- ---- an entry further

-- the tables are looked up as what stands above says
same_nets : (m : Module) (place : ℕ) (entries : List Entry) (nets : Known) → Above m place entries nets → (x : tree.Entry)
    → entry_fits (width_in nets) (known_in nets) x ≡ entry_fits (width_above m.ports (map entry_of (take place entries))) (is_known m (map entry_of (take place entries))) x
same_nets m place entries nets above x = λ i. entry_fits (λ n. above.nets_are.widths_are n i) (λ n. above.nets_are.known_are n i) x

pub not_fitting : (m : Module) (place : ℕ) (entries : List Entry) (nets : Known) (x : Entry) (answer : Bool) → place < length entries → x ≡ get_or entries place x → Above m place entries nets
    → answer ≡ entry_fits (width_in nets) (known_in nets) (entry_of x) → answer ≡ false → false ≡ entries_fit m [] (map entry_of entries)
not_fitting m place entries nets x answer less at above is fails =
    let fits : entry_fits (width_above m.ports (map entry_of (take place entries))) (is_known m (map entry_of (take place entries))) (entry_of x) ≡ false =
    sym (same_nets m place entries nets above (entry_of x)) ∙ sym is ∙ fails in
    ap (λ t. t && entries_fit m (map entry_of (take place entries) ++ entry_of x ∷ []) (map entry_of (drop (place + 1) entries))) (sym fits)
    ∙ sym (ap (entries_fit m (map entry_of (take place entries))) (entries_here entries place x less at))
    ∙ above.rest

pub above_more : (m : Module) (place : ℕ) (entries : List Entry) (old new : Known) (x : Entry) (answer : Bool) → place < length entries → x ≡ get_or entries place x → Above m place entries old
    → answer ≡ entry_fits (width_in old) (known_in old) (entry_of x) → answer ≡ true → HasEntry (entry_of x) old new → Above m (place + 1) entries new
above_more m place entries old new x answer less at above is fits added =
    let taken : map entry_of (take (place + 1) entries) ≡ map entry_of (take place entries) ++ entry_of x ∷ [] = entries_taken entries place x less at in
    record {
      nets_are = record {
        widths_are = λ n.
            added.widths_are n
            ∙ ap (λ w. or_else w (width_at (wire_nets (entry_of x ∷ [])) n)) (above.nets_are.widths_are n)
            ∙ sym (wider m.ports (map entry_of (take place entries)) (entry_of x) n)
            ∙ sym (ap (λ es. width_above m.ports es n) taken);
        known_are = λ n.
            added.known_are n
            ∙ ap (λ t. ltb 0 (expressions_count n (entry_of x ∷ [])) || t) (above.nets_are.known_are n)
            ∙ sym (known_further m (map entry_of (take place entries)) (entry_of x) n)
            ∙ sym (ap (λ es. is_known m es n) taken);
      };
      rest =
          ap (λ es. entries_fit m es (map entry_of (drop (place + 1) entries))) taken
          ∙ sym (ap (λ t. t && entries_fit m (map entry_of (take place entries) ++ entry_of x ∷ []) (map entry_of (drop (place + 1) entries)))
          (sym (same_nets m place entries old above (entry_of x)) ∙ sym is ∙ fits))
          ∙ sym (ap (entries_fit m (map entry_of (take place entries))) (entries_here entries place x less at))
          ∙ above.rest;
    }
