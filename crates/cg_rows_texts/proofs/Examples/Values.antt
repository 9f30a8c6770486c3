-- Values of expressions and of modules.
use Rattle.std.proofs.Common.{◌≡◌, ℕ, Bool, true, false, cond, List, [], ◌∷◌, inl, inr, refl, sym, ap, ◌∙◌, arith, codes}
use Rattle.cg_svspec.specs.Names.{Among}
use Rattle.std.specs.Str.{bytes_eq}
use Rattle.cg_svspec.specs.Bits.{Bits, bits}
use Rattle.cg_svspec.specs.Tree.{Expression, net, cut, lit, cat, inv, any, and, or, equal, pick, none, more, Entry, wire, drive, assign, inst, Module}
use Rattle.cg_svspec.specs.Register.{input_port, output_port}
use Rattle.cg_svspec.specs.Value.{Values, eval, Holds, Valuation, IsReset}
use Rattle.cg_svspec.specs.WellFormed.{WellFormed}
use Rattle.cg_sv.specs.Views.{connection, parameter}

-- ---- expressions, where x has the 8 bits of 0x5a

abbrev x : Expression
x = net (codes "x")

abbrev values : Values
values = λ n. bits 8 90

-- the first part has the high bits: {1'h1, 2'h2} is 6
parts : eval values (cat (more (lit 1 1) (more (lit 2 2) none))) ≡ bits 3 6
unfolding bits
parts = refl

-- x[6:4]
range : eval values (cut (codes "x") 6 4) ≡ bits 3 5
unfolding bits
range = refl

-- (~x) is 0xa5
turned : eval values (inv x) ≡ bits 8 165
unfolding bits
turned = refl

-- (|x) is 1, and (|4'h0) is 0
some : eval values (any x) ≡ bits 1 1
unfolding bits
some = refl

nothing : eval values (any (lit 4 0)) ≡ bits 1 0
unfolding bits
nothing = refl

-- (x & 8'hf) and (x | 8'hf)
both : eval values (and x (lit 8 15)) ≡ bits 8 10
unfolding bits
both = refl

either : eval values (or x (lit 8 15)) ≡ bits 8 95
unfolding bits
either = refl

-- (x == 8'h5a) and (x == 8'h5b)
same : eval values (equal x (lit 8 90)) ≡ bits 1 1
unfolding bits
same = refl

other : eval values (equal x (lit 8 91)) ≡ bits 1 0
unfolding bits
other = refl

-- (1'h1 ? x : 8'h0) and (1'h0 ? x : 8'h0)
first_choice : eval values (pick (lit 1 1) x (lit 8 0)) ≡ bits 8 90
unfolding bits
first_choice = refl

second_choice : eval values (pick (lit 1 0) x (lit 8 0)) ≡ bits 8 0
unfolding bits
second_choice = refl

-- ---- a flip-flop of 8 bits that takes the input x, and starts with 0x80

abbrev flop : Entry
flop =
    inst (codes "prim_flop") (parameter (codes "Width") (lit 0 8) ∷ parameter (codes "ResetValue") (lit 8 128) ∷ []) (codes "u_q")
    (connection (codes "clk_i") (net (codes "clk_i")) ∷ connection (codes "d_i") (inv x) ∷ connection (codes "q_o") (net (codes "q")) ∷ [])

-- in a clock its net has the state, and the next state is the value at `d_i`
held : Holds (λ n. cond (bytes_eq n (codes "q")) (bits 8 7) (bits 8 90)) (λ n. bits 8 7) (λ n. bits 8 165) flop
unfolding bits
held = (refl, refl)

-- at reset the state is its `ResetValue`, and no other
abbrev module_with : List Entry → Module
module_with entries = record { name = codes "m"; ports = input_port 8 (codes "x") ∷ output_port 8 (codes "y") ∷ []; entries = entries }

reset : IsReset (module_with (flop ∷ [])) (λ n. bits 8 128)
reset = (refl, tt)

not_reset : IsReset (module_with (flop ∷ [])) (λ n. bits 8 0) → ⊥
unfolding bits
not_reset h = let highest : false ≡ true = λ i. last_of (h.0 i) in cc where
  last_of : Bits → Bool
  last_of [] = false
  last_of (b ∷ []) = b
  last_of (b ∷ c ∷ bs) = last_of (c ∷ bs)

-- ---- nets have the values of their drivers, in no order

abbrev two_nets : Module
two_nets = module_with (assign (codes "y") (net (codes "n")) ∷ drive 8 (codes "n") (inv x) ∷ [])

abbrev two_values : Values
two_values = λ n. cond (bytes_eq n (codes "x")) (bits 8 90) (bits 8 165)

valuation : Valuation two_nets (λ n. bits 8 90) (λ n. []) two_values (λ n. [])
unfolding bits
valuation = record { inputs_hold = (refl, (tt, tt)); entries_hold = (refl, (refl, tt)) }

-- ---- what is not well formed

-- `wire [7:0] n = 4'h1;` has two widths
two_widths : WellFormed (module_with (drive 8 (codes "n") (lit 4 1) ∷ assign (codes "y") (net (codes "n")) ∷ [])) → ⊥
two_widths m = absurd (omega (arith, m.entries_fit.0))

-- `y` has two drivers
two_drivers : WellFormed (module_with (assign (codes "y") x ∷ assign (codes "y") x ∷ [])) → ⊥
two_drivers m = m.drivers_differ.0 (inl refl)

-- a name is not among others of which its bytes are none
not_only : (n m : List ℕ) → bytes_eq m n ≡ false → bytes_eq n n ≡ true → Among n (m ∷ []) → ⊥
not_only n m other self (inl h) = let bad : true ≡ false = sym self ∙ ap (λ k. bytes_eq k n) h ∙ other in cc
not_only n m other self (inr h) = h

-- `wire [7:0] n;` has none
no_driver : WellFormed (module_with (wire 8 (codes "n") ∷ assign (codes "y") x ∷ [])) → ⊥
no_driver m = not_only (codes "n") (codes "y") refl refl m.wires_driven.0

-- `n` is used in front of its declaration
used_early : WellFormed (module_with (assign (codes "y") (net (codes "n")) ∷ drive 8 (codes "n") x ∷ [])) → ⊥
used_early m = not_only (codes "n") (codes "x") refl refl m.entries_fit.1
