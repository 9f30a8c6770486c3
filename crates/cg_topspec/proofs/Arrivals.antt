-- Where a net of the first module leads to: laws of the walk's own words.
use Rattle.std.proofs.Common.{Bool, List, None, Option, Some, [], ap, arith, cond, eqb, false, inl, inr, length, not, refl, slice_get, subst, suc, sym, true, zero, ℕ, ◌&&◌, ◌++◌, ◌+◌, ◌-◌, ◌<◌, ◌||◌, ◌∙◌, ◌∷◌, ◌≡◌}
use Rattle.std.proofs.lemmas.Bool.{eq-eqb}
use Rattle.std.specs.Str.{bytes_eq}
use Rattle.cg_svspec.proofs.NamesLemmas.{among_by_test, name_is_itself, same_name}
use Rattle.cg_svspec.specs.Links.{has_port, is_net, wire_nets}
use Rattle.cg_svspec.specs.Names.{Among, Differ, is_among, port_names}
use Rattle.cg_svspec.specs.Tree.{Connection, Entry, Expression, Module, Parameter, Port, assign, drive, inst, net, wire}
use Rattle.cg_svspec.specs.Value.{connection_at}
use Rattle.cg_svspec.specs.Walk.{arrival, connection_number, counts_at, here_or, is_bare, is_some_module, module_named}
use Rattle.cg_svspec.specs.WellFormed.{Net, connection_names, outputs_of, port_nets, stated}
use Rattle.cg_topspec.specs.Top.{counting}

-- ---- connections

pub connection_name_in : (c : Connection) (cs : List Connection) → Among c cs → Among c.name (connection_names cs)
connection_name_in c [] a = absurd a
connection_name_in c (d ∷ cs) (inl e) = inl (ap (λ (x : Connection). x.name) e)
connection_name_in c (d ∷ cs) (inr a) = inr (connection_name_in c cs a)

-- where no name stands twice, a connection is found by its name
pub connection_found : (cs : List Connection) → Differ (connection_names cs) → (c : Connection) → Among c cs → connection_at c.name cs ≡ Some c.value
connection_found [] d c a = absurd a
connection_found (x ∷ cs) d c (inl e) = rw (e, name_is_itself x.name) refl
connection_found (x ∷ cs) d c (inr a) = by (bytes_eq x.name c.name) refl (connection_found cs d.1 c a) where
  by : (b : Bool) → bytes_eq x.name c.name ≡ b → connection_at c.name cs ≡ Some c.value → cond b (Some x.value) (connection_at c.name cs) ≡ Some c.value
  by true is later = absurd (d.0 (subst (λ n. Among n (connection_names cs)) (sym (same_name x.name c.name is)) (connection_name_in c cs a)))
  by false is later = later

-- what is found by a name is the value of a connection of that name
pub found_connection : (cs : List Connection) (n : List ℕ) (v : Expression) → connection_at n cs ≡ Some v → (c : Connection) × Among c cs × (c.name ≡ n) × (c.value ≡ v)
found_connection [] n v e = cc
found_connection (x ∷ cs) n v e = by (bytes_eq x.name n) refl (found_connection cs n v) e where
  by : (b : Bool) → bytes_eq x.name n ≡ b → (connection_at n cs ≡ Some v → (c : Connection) × Among c cs × (c.name ≡ n) × (c.value ≡ v))
      → cond b (Some x.value) (connection_at n cs) ≡ Some v → (c : Connection) × Among c (x ∷ cs) × (c.name ≡ n) × (c.value ≡ v)
  by true is later found = let same : x.value ≡ v = cc in (x, inl refl, same_name x.name n is, same)
  by false is later found = let h = later found in (h.0, inr h.1, h.2, h.3)

-- a test on what is found holds where it holds of each connection of that name
pub bare_none : (cs : List Connection) (n q : List ℕ) → ((c : Connection) → Among c cs → c.name ≡ n → is_bare (Some c.value) q ≡ false) → is_bare (connection_at n cs) q ≡ false
bare_none cs n q h = by (connection_at n cs) refl where
  by : (o : Option Expression) → connection_at n cs ≡ o → is_bare o q ≡ false
  by None e = refl
  by (Some v) e = let f = found_connection cs n v e in subst (λ z. is_bare (Some z) q ≡ false) f.3 (h f.0 f.1 f.2)

pub bare_is : (v : Expression) (q : List ℕ) → is_bare (Some v) q ≡ true → v ≡ net q
bare_is (net n) q e = ap net (same_name n q e)
bare_is _ q e = cc

pub bare_itself : (q : List ℕ) → is_bare (Some (net q)) q ≡ true
bare_itself q = name_is_itself q

-- a value that is not the net
pub not_bare : (v : Expression) (q : List ℕ) → (v ≡ net q → ⊥) → is_bare (Some v) q ≡ false
not_bare v q h = by (is_bare (Some v) q) refl where
  by : (b : Bool) → is_bare (Some v) q ≡ b → b ≡ false
  by true e = absurd (h (bare_is v q e))
  by false e = refl

-- ---- the number of a connection

pub no_number : (counts : List ℕ → Bool) (q : List ℕ) (cs : List Connection) (j : ℕ) (ds : List Connection)
    → ((d : Connection) → Among d ds → (counts d.name && is_bare (connection_at d.name cs) q) ≡ false) → connection_number counts q cs j ds ≡ None
no_number counts q cs j [] h = refl
no_number counts q cs j (d ∷ ds) h = rw (h d (inl refl)) (no_number counts q cs (suc j) ds (λ e a. h e (inr a)))

-- the only connection that counts and has the net is found, and stands at the number
pub one_number : (counts : List ℕ → Bool) (q : List ℕ) (cs : List Connection) (j : ℕ) (ds : List Connection) (c : Connection) → Among c ds
    → (counts c.name && is_bare (connection_at c.name cs) q) ≡ true
    → ((d : Connection) → Among d ds → (counts d.name && is_bare (connection_at d.name cs) q) ≡ true → d ≡ c)
    → (k : ℕ) × (connection_number counts q cs j ds ≡ Some (j + k)) × (slice_get ds k ≡ Some c)
one_number counts q cs j [] c a is only = absurd a
one_number counts q cs j (d ∷ ds) c a is only =
    by (counts d.name && is_bare (connection_at d.name cs) q) refl a (λ b. one_number counts q cs (suc j) ds c b is (λ e f. only e (inr f))) where
      by : (b : Bool) → (counts d.name && is_bare (connection_at d.name cs) q) ≡ b → Among c (d ∷ ds)
          → (Among c ds → (k : ℕ) × (connection_number counts q cs (suc j) ds ≡ Some (suc j + k)) × (slice_get ds k ≡ Some c))
          → (k : ℕ) × (cond b (Some j) (connection_number counts q cs (suc j) ds) ≡ Some (j + k)) × (slice_get (d ∷ ds) k ≡ Some c)
      by true here a later = (0, ap Some (omega arith), ap Some (only d (inl refl) here))
      by false here (inl e) later = let same : (counts c.name && is_bare (connection_at c.name cs) q) ≡ (counts d.name && is_bare (connection_at d.name cs) q) = ap (λ (x : Connection). counts x.name && is_bare (connection_at x.name cs) q) e in cc
      by false here (inr b) later = let h = later b in (suc h.0, h.1 ∙ ap Some (omega arith), h.2)

-- ---- the entry at which a net arrives

-- the net is at no connection of the entry that counts
abbrev pub Skips : List Module → List ℕ → Entry → Type 0
Skips ms q e = (i : ℕ) (es : List Entry) → arrival ms q i (e ∷ es) ≡ arrival ms q (suc i) es

pub skip_all : (ms : List Module) (q : List ℕ) (xs ys : List Entry) (i : ℕ) → ((e : Entry) → Among e xs → Skips ms q e) → arrival ms q i (xs ++ ys) ≡ arrival ms q (i + length xs) ys
skip_all ms q [] ys i h = ap (λ k. arrival ms q k ys) (omega arith)
skip_all ms q (x ∷ xs) ys i h =
    h x (inl refl) i (xs ++ ys) ∙ (skip_all ms q xs ys (suc i) (λ e a. h e (inr a)) ∙ ap (λ k. arrival ms q k ys) (omega arith))

pub skips_instance : (ms : List Module) (q m : List ℕ) (ps : List Parameter) (n : List ℕ) (cs : List Connection)
    → connection_number (counts_at (is_some_module (module_named ms m))) q cs 0 cs ≡ None → Skips ms q (inst m ps n cs)
skips_instance ms q m ps n cs e i es = ap (here_or i (arrival ms q (suc i) es)) e

pub arrives_here : (ms : List Module) (q m : List ℕ) (ps : List Parameter) (n : List ℕ) (cs : List Connection) (i j : ℕ) (es : List Entry)
    → connection_number (counts_at (is_some_module (module_named ms m))) q cs 0 cs ≡ Some j → arrival ms q i (inst m ps n cs ∷ es) ≡ Some (i, j)
arrives_here ms q m ps n cs i j es e = ap (here_or i (arrival ms q (suc i) es)) e

-- ---- nets and ports that are there

pub net_there : (nets : List Net) (w : ℕ) (n : List ℕ) → Among (stated n w) nets → is_net nets w n ≡ true
net_there [] w n a = absurd a
net_there (x ∷ nets) w n (inl e) = rw (sym e, eq-eqb w w refl, name_is_itself n) refl
net_there (x ∷ nets) w n (inr a) = by (eqb x.width w && bytes_eq x.name n) (net_there nets w n a) where
  by : (b : Bool) → is_net nets w n ≡ true → (b || is_net nets w n) ≡ true
  by true e = refl
  by false e = e

pub port_net_there : (p : Port) (ps : List Port) → Among p ps → Among (stated p.name p.width) (port_nets ps)
port_net_there p [] a = absurd a
port_net_there p (q ∷ ps) (inl e) = inl (ap (λ (x : Port). stated x.name x.width) e)
port_net_there p (q ∷ ps) (inr a) = inr (port_net_there p ps a)

pub wire_net_there : (w : ℕ) (n : List ℕ) (es : List Entry) → Among (wire w n) es → Among (stated n w) (wire_nets es)
wire_net_there w n [] a = absurd a
wire_net_there w n (e ∷ es) (inl s) = subst (λ x. Among (stated n w) (wire_nets (x ∷ es))) s (inl refl)
wire_net_there w n (wire u m ∷ es) (inr a) = inr (wire_net_there w n es a)
wire_net_there w n (drive u m x ∷ es) (inr a) = inr (wire_net_there w n es a)
wire_net_there w n (assign m x ∷ es) (inr a) = wire_net_there w n es a
wire_net_there w n (inst m ps k cs ∷ es) (inr a) = wire_net_there w n es a

pub port_there : (ps : List Port) (input : Bool) (w : ℕ) (n : List ℕ) → Among (record { input = input; width = w; name = n }) ps → has_port ps input w n ≡ true
port_there [] input w n a = absurd a
port_there (p ∷ ps) input w n (inl e) = rw (sym e, eq-eqb w w refl, name_is_itself n) (by input) where
  by : (b : Bool) → ((cond b b (not b) && true) || has_port ps input w n) ≡ true
  by true = refl
  by false = refl
port_there (p ∷ ps) input w n (inr a) = by (cond p.input input (not input) && (eqb p.width w && bytes_eq p.name n)) (port_there ps input w n a) where
  by : (b : Bool) → has_port ps input w n ≡ true → (b || has_port ps input w n) ≡ true
  by true e = refl
  by false e = e

pub output_there : (ps : List Port) (p : Port) → Among p ps → p.input ≡ false → Among p.name (outputs_of ps)
output_there [] p a o = absurd a
output_there (q ∷ ps) p (inl e) o = subst (λ (x : Port). Among p.name (cond x.input (outputs_of ps) (x.name ∷ outputs_of ps))) e (rw o (inl refl))
output_there (q ∷ ps) p (inr a) o = by q.input (output_there ps p a o) where
  by : (b : Bool) → Among p.name (outputs_of ps) → Among p.name (cond b (outputs_of ps) (q.name ∷ outputs_of ps))
  by true h = h
  by false h = inr h

pub output_is_port : (ps : List Port) (n : List ℕ) → Among n (outputs_of ps) → Among n (port_names ps)
output_is_port [] n a = a
output_is_port (p ∷ ps) n a = by p.input (output_is_port ps n) a where
  by : (b : Bool) → (Among n (outputs_of ps) → Among n (port_names ps)) → Among n (cond b (outputs_of ps) (p.name ∷ outputs_of ps)) → Among n (p.name ∷ port_names ps)
  by true f h = inr (f h)
  by false f (inl e) = inl e
  by false f (inr h) = inr (f h)

pub no_output : (ps : List Port) (n : List ℕ) → (Among n (port_names ps) → ⊥) → is_among (outputs_of ps) n ≡ false
no_output ps n h = by (is_among (outputs_of ps) n) refl where
  by : (b : Bool) → is_among (outputs_of ps) n ≡ b → b ≡ false
  by true e = absurd (h (output_is_port ps n (among_by_test (outputs_of ps) n e)))
  by false e = refl

-- ---- entries by their numbers

pub slice_after : {A : Type 0} (xs ys : List A) (k : ℕ) → slice_get (xs ++ ys) (length xs + k) ≡ slice_get ys k
slice_after [] ys k = ap (slice_get ys) (omega arith)
slice_after (x ∷ xs) ys k = let e : length (x ∷ xs) + k ≡ suc (length xs + k) = omega arith in rw e (slice_after xs ys k)

-- numbers before one, it, and those after it
pub counting_split : (i n k : ℕ) → k < n → counting i n ≡ counting i k ++ ((i + k) ∷ counting (suc (i + k)) (n - suc k))
counting_split i zero k h = absurd (omega (arith, h))
counting_split i (suc n) zero h = let a : i + 0 ≡ i = omega arith in let b : suc n - 1 ≡ n = omega arith in rw (a, b) refl
counting_split i (suc n) (suc k) h =
    let a : i + suc k ≡ suc i + k = omega arith in let b : suc n - suc (suc k) ≡ n - suc k = omega arith in
    rw (a, b) (ap (λ z. i ∷ z) (counting_split (suc i) n k (omega (arith, h))))

pub counting_length : (i n : ℕ) → length (counting i n) ≡ n
counting_length i zero = refl
counting_length i (suc n) = let h : length (counting (suc i) n) ≡ n = counting_length (suc i) n in omega (arith, h)
