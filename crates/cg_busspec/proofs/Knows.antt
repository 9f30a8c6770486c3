-- The value of a host's select on a way: the number of the first device that has the request's address.
use Rattle.std.proofs.Common.{◌≡◌, ℕ, suc, ◌^◌, ◌+◌, ◌-◌, ◌/◌, eqb, Bool, true, false, cond, arith, ◌⊎◌, inl, inr, List, [], ◌∷◌, ◌++◌, map, length, refl, ap, sym, subst, ◌∙◌, codes}
use Rattle.std.specs.Prelude.{flat_map}
use Rattle.std.specs.Str.{bytes_eq}
use Rattle.std.proofs.lemmas.Bool.{eqb-true}
use Rattle.std.proofs.lemmas.List.{append_cancel_left}
use Rattle.cg_svspec.specs.Bits.{Bits, bits}
use Rattle.cg_svspec.specs.Tree.{Expression, cut, lit, equal, Entry, wire, drive, assign, inst}
use Rattle.cg_svspec.specs.Names.{is_among, Among}
use Rattle.cg_svspec.specs.Value.{eval}
use Rattle.cg_svspec.proofs.NamesLemmas.{name_is_itself, same_name}
use Rattle.cg_svspec.specs.Links.{Link, Known, is_known, are_known, learn, learn_all, known_of, number}
use Rattle.cg_desc.specs.declared.crossbar.Range.{Range}
use Rattle.cg_busspec.specs.Crossbar.{device_ranges, Crossbar, node, hosts, devices, label, reach, is_joined, has_fifo}
use Rattle.cg_busspec.proofs.Good.{IsCrossbar}
use Rattle.cg_busspec.specs.CrossbarModule.{power_of, range_term, range_terms, select, host_select, sel, f_link, h_link, l_link, m_link, socket_link, entries_if, link_wires, host_wires, lane_wires, host_lanes, device_wires, host_parts, device_parts, fifo_instance, split_instance, join_instance, crossbar_wires, crossbar_selects, crossbar_parts, crossbar_entries, crossbar_module}
use Rattle.cg_busspec.proofs.PartWays.{fails}
use Rattle.cg_busspec.proofs.Places.{NamesDiffer}
use Rattle.cg_busspec.proofs.Owners.{same_host}
use Rattle.cg_busspec.proofs.Selects.{address_bits, first_with, select_is}

-- ---- learning

-- learning from lists put together
pub learn_join : (k : Known) (xs ys : List Entry) → learn_all k (xs ++ ys) ≡ learn_all (learn_all k xs) ys
learn_join k [] ys = refl
learn_join k (wire w n ∷ xs) ys = learn_join k xs ys
learn_join k (drive w n x ∷ xs) ys = learn_join (learn k n x) xs ys
learn_join k (assign n x ∷ xs) ys = learn_join (learn k n x) xs ys
learn_join k (inst m ps n cs ∷ xs) ys = learn_join k xs ys

-- entries that teach nothing
abbrev pub Silent : List Entry → Type 0
Silent es = (k : Known) → learn_all k es ≡ k

-- lists put together
silent_join : (xs ys : List Entry) → Silent xs → Silent ys → Silent (xs ++ ys)
silent_join xs ys a b k = learn_join k xs ys ∙ ap (λ z. learn_all z ys) (a k) ∙ b k

-- lists that are made number by number
silent_flat : (f : ℕ → List Entry) (is : List ℕ) → ((i : ℕ) → Silent (f i)) → Silent (flat_map f is)
silent_flat f [] a k = refl
silent_flat f (i ∷ is) a k = silent_join (f i) (flat_map f is) (a i) (silent_flat f is a) k

-- entries where a test holds
silent_if : (b : Bool) (xs : List Entry) → Silent xs → Silent (entries_if b xs)
silent_if true xs a k = a k
silent_if false xs a k = refl

-- a link's wires
silent_links : (l : Link) → Silent (link_wires l)
silent_links l k = refl

-- all wires
silent_wires : (x : Crossbar) → Silent (crossbar_wires x.desc)
silent_wires x =
    silent_join (flat_map (host_wires x.desc) (hosts x.desc)) _ (silent_flat (host_wires x.desc) (hosts x.desc) (λ h. silent_if (has_fifo x.desc h) _ (silent_links (f_link x.desc h))))
    (silent_join (flat_map (host_lanes x.desc) (hosts x.desc)) (flat_map (device_wires x.desc) (devices x.desc))
    (silent_flat (host_lanes x.desc) (hosts x.desc) (λ h. silent_flat (lane_wires x.desc h) (reach x.desc h) (λ d. silent_if (is_joined x.desc d) _ (silent_links (l_link x.desc h d)))))
    (silent_flat (device_wires x.desc) (devices x.desc) (λ d. silent_if (has_fifo x.desc d) _ (silent_links (m_link x.desc d)))))

-- all parts
silent_parts : (x : Crossbar) → Silent (crossbar_parts x.desc)
unfolding fifo_instance split_instance join_instance
silent_parts x =
    silent_join (flat_map (host_parts x.desc) (hosts x.desc)) (flat_map (device_parts x.desc) (devices x.desc))
    (silent_flat (host_parts x.desc) (hosts x.desc) (λ h. silent_join (entries_if (has_fifo x.desc h) _) _ (silent_if (has_fifo x.desc h) _ (λ k. refl)) (λ k. refl)))
    (silent_flat (device_parts x.desc) (devices x.desc) (λ d. silent_join (entries_if (is_joined x.desc d) _) _ (silent_if (is_joined x.desc d) _ (λ k. refl)) (silent_if (has_fifo x.desc d) _ (λ k. refl))))

-- ---- what is known of one net

pub record Told (k : Known) (n : List ℕ) (b : Bits) : Type 0 where
  pub known : is_among k.names n ≡ true
  pub value : k.values n ≡ b

-- it stays so when another net is learned
told_later : (k : Known) (n m : List ℕ) (b : Bits) (x : Expression) → bytes_eq m n ≡ false → Told k n b → Told (learn k m x) n b
told_later k n m b x other t = by (is_known k.names x) where
  by : (c : Bool) → Told (cond c (record { names = m ∷ k.names; values = λ z. cond (bytes_eq m z) (eval k.values x) (k.values z) }) k) n b
  by true = record { known = rw (other, t.known) refl; value = rw other (t.value) }
  by false = t

-- a net whose expression is known
told_now : (k : Known) (n : List ℕ) (b : Bits) (x : Expression) → is_known k.names x ≡ true → eval k.values x ≡ b → Told (learn k n x) n b
told_now k n b x known value = rw known (record { known = rw (name_is_itself n) refl; value = rw (name_is_itself n) value })

-- ---- the nets that a select uses

-- a range's term uses only the request
term_known : (names : List (List ℕ)) (q : List ℕ) (r : Range) → is_among names q ≡ true → is_known names (range_term q r) ≡ true
unfolding range_term
term_known names q r h = by (eqb (power_of r) 32) where
  by : (b : Bool) → is_known names (cond b (lit 1 1) (equal (cut q 63 (32 + power_of r)) (lit (32 - power_of r) (r.base / 2 ^ power_of r)))) ≡ true
  by true = refl
  by false = rw h refl

-- so do all terms
terms_known : (names : List (List ℕ)) (q : List ℕ) (rs : List Range) → is_among names q ≡ true → are_known names (range_terms q rs) ≡ true
terms_known names q [] h = refl
terms_known names q (r ∷ rs) h = rw (term_known names q r h, terms_known names q rs h) refl

-- and the select
select_known : (names : List (List ℕ)) (x : Crossbar) (q : List ℕ) (j : ℕ) (ds : List ℕ) → is_among names q ≡ true → is_known names (select x q j ds) ≡ true
select_known names x q j [] h = refl
select_known names x q j (d ∷ ds) h = rw (terms_known names q (device_ranges x d) h, select_known names x q (suc j) ds h) refl

-- ---- the selects of all hosts

-- names of selects
other_select : (x : Crossbar) → NamesDiffer x → (h g : ℕ) → Among h (hosts x.desc) → Among g (hosts x.desc) → (g ≡ h → ⊥) → bytes_eq (sel x.desc g) (sel x.desc h) ≡ false
other_select x d h g i j other = fails _ (λ e. other (same_host x d g h j i (ap (λ z. z ++ codes "_req") (append_cancel_left (codes "sel_") (label x.desc g) (label x.desc h) (same_name (sel x.desc g) (sel x.desc h) e)))))

-- no request's name is a select's
no_select : (x : Crossbar) (h g : ℕ) → bytes_eq (sel x.desc g) (socket_link x.desc h).request ≡ false
unfolding socket_link
no_select x h g = by (has_fifo x.desc h) where
  by : (b : Bool) → bytes_eq (sel x.desc g) (cond b (f_link x.desc h) (h_link x.desc h)).request ≡ false
  by true = refl
  by false = refl

-- what the select of a host tells
abbrev pub select_bits : Crossbar → ℕ → Bits → Bits
select_bits x h request = bits 8 (first_with x (number (address_bits request)) 0 (reach x.desc h))

-- behind all selects the host's is known
selects_tell : (x : Crossbar) → IsCrossbar x → NamesDiffer x → (h : ℕ) (request : Bits) → Among h (hosts x.desc) → length request ≡ 70 → (gs : List ℕ) (k : Known)
    → ((g : ℕ) → Among g gs → Among g (hosts x.desc)) → Told k (socket_link x.desc h).request request → (Told k (sel x.desc h) (select_bits x h request) ⊎ Among h gs)
    → Told (learn_all k (map (host_select x) gs)) (sel x.desc h) (select_bits x h request)
selects_tell x c d h request i long [] k all q (inl t) = t
selects_tell x c d h request i long [] k all q (inr n) = absurd n
selects_tell x c d h request i long (g ∷ gs) k all q now =
    selects_tell x c d h request i long gs (learn k (sel x.desc g) (select x (socket_link x.desc g).request 0 (reach x.desc g))) (λ e m. all e (inr m))
    (told_later k (socket_link x.desc h).request (sel x.desc g) request (select x (socket_link x.desc g).request 0 (reach x.desc g)) (no_select x h g) q)
    (by (eqb g h) refl now) where
      expression : Expression
      expression = select x (socket_link x.desc g).request 0 (reach x.desc g)

      here : g ≡ h → Told (learn k (sel x.desc g) expression) (sel x.desc h) (select_bits x h request)
      here e = subst (λ z. Told (learn k (sel x.desc z) (select x (socket_link x.desc z).request 0 (reach x.desc z))) (sel x.desc h) (select_bits x h request)) (sym e)
          (told_now k (sel x.desc h) (select_bits x h request) (select x (socket_link x.desc h).request 0 (reach x.desc h)) (select_known k.names x (socket_link x.desc h).request 0 (reach x.desc h) q.known)
          (select_is k.values x (socket_link x.desc h).request request q.value long 0 (reach x.desc h) (λ e m. c.ranges e (c.reaches h e i m))))

      itself : eqb g h ≡ false → g ≡ h → ⊥
      itself e s = clash_number h (subst (λ z. eqb z h ≡ false) s e) where
        clash_number : (n : ℕ) → eqb n n ≡ false → ⊥
        clash_number n u = grind arith

      by : (b : Bool) → eqb g h ≡ b → (Told k (sel x.desc h) (select_bits x h request) ⊎ Among h (g ∷ gs))
          → (Told (learn k (sel x.desc g) expression) (sel x.desc h) (select_bits x h request) ⊎ Among h gs)
      by true e now = inl (here (eqb-true g h e))
      by false e (inl t) = inl (told_later k (sel x.desc h) (sel x.desc g) (select_bits x h request) expression (other_select x d h g i (all g (inl refl)) (itself e)) t)
      by false e (inr (inl s)) = inl (here (sym s))
      by false e (inr (inr m)) = inr m

-- On a way that was at the socket's link, the select of the host has that value.
pub select_told : (x : Crossbar) → IsCrossbar x → NamesDiffer x → (h : ℕ) (request : Bits) (held : List (List ℕ)) → Among h (hosts x.desc) → length request ≡ 70
    → is_among held (socket_link x.desc h).request ≡ true → Told (known_of (crossbar_module x) request held) (sel x.desc h) (select_bits x h request)
unfolding known_of crossbar_module crossbar_entries
select_told x c d h request held i long way =
    let k : Known = record { names = held; values = λ n. request } in
    let told = selects_tell x c d h request i long (hosts x.desc) k (λ g m. m) (record { known = way; value = refl }) (inr i) in
    let whole : learn_all k (crossbar_wires x.desc ++ (crossbar_selects x ++ crossbar_parts x.desc)) ≡ learn_all k (crossbar_selects x) =
    learn_join k (crossbar_wires x.desc) (crossbar_selects x ++ crossbar_parts x.desc) ∙ ap (λ z. learn_all z (crossbar_selects x ++ crossbar_parts x.desc)) (silent_wires x k)
    ∙ learn_join k (crossbar_selects x) (crossbar_parts x.desc) ∙ silent_parts x (learn_all k (crossbar_selects x)) in
    subst (λ z. Told z (sel x.desc h) (select_bits x h request)) (sym whole) told
