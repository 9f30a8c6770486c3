-- The listed bits are those of the widths, in their order.
use Rattle.std.proofs.Common.{◌≡◌, ◌↔◌, ◌+◌, ◌<◌, ◌≤◌, ◌⊎◌, ℕ, zero, suc, List, [], ◌∷◌, Some, inl, inr, refl, sym, ap, subst, ◌∙◌, arith}
use Rattle.std.specs.List.{slice_get}
use Rattle.cg_svspec.specs.Names.{Among}
use Rattle.cg_irq.specs.Listed.{bits_of, item_bits, list_bits}
use Rattle.cg_irq.specs.Numbers.{AreBits, BitBefore}
use Rattle.cg_irq.specs.declared.bits.Bit.{Bit}
use Rattle.cg_irq.proofs.Order.{Rises, among_either, among_left, among_right, by_place, one_by_place, rises_append}

-- ---- members

-- an item of this list of widths, with this bit
pub record InList (ws : List ℕ) (item bit : ℕ) : Type 0 where
  pub width : ℕ
  pub is : slice_get ws item ≡ Some width
  pub within : bit < width

-- an item of one of these lists, with this bit
pub record InLists (wss : List (List ℕ)) (inst item bit : ℕ) : Type 0 where
  pub widths : List ℕ
  pub is : slice_get wss inst ≡ Some widths
  pub in_list : InList widths item bit

-- bits of item k of instance i, from s on
pub record InItem (i k s n : ℕ) (b : Bit) : Type 0 where
  pub inst : b.inst ≡ i
  pub item : b.item ≡ k
  pub from : s ≤ b.bit
  pub below : b.bit < s + n

pub in_item : (i k s n : ℕ) (b : Bit) → Among b (item_bits i k s n) → InItem i k s n b
unfolding item_bits
in_item i k s zero b among = absurd among
in_item i k s (suc n) b (inl is) =
    let at : b.bit ≡ s = ap (λ (x : Bit). x.bit) is in
    record { inst = ap (λ (x : Bit). x.inst) is; item = ap (λ (x : Bit). x.item) is; from = omega (arith, at); below = omega (arith, at) }
in_item i k s (suc n) b (inr among) =
    let rest = in_item i k (suc s) n b among in
    record { inst = rest.inst; item = rest.item; from = omega (arith, rest.from); below = omega (arith, rest.below) }

pub item_has : (i k s n : ℕ) (b : Bit) → InItem i k s n b → Among b (item_bits i k s n)
unfolding item_bits
item_has i k s zero b in_one = absurd (omega (arith, in_one.from, in_one.below))
item_has i k s (suc n) b in_one = by (first s b.bit in_one.from) (λ rest. item_has i k (suc s) n b rest) where
  first : (s t : ℕ) → s ≤ t → (t ≡ s) ⊎ (suc s ≤ t)
  first zero zero le = inl refl
  first zero (suc t) le = inr (omega arith)
  first (suc s) zero le = absurd (omega (arith, le))
  first (suc s) (suc t) le = elim (first s t (omega (arith, le))) [ inl is ↦ inl (ap suc is) | inr later ↦ inr (omega (arith, later)) ]

  by : (b.bit ≡ s) ⊎ (suc s ≤ b.bit) → (InItem i k (suc s) n b → Among b (item_bits i k (suc s) n)) → Among b (record { inst = i; item = k; bit = s } ∷ item_bits i k (suc s) n)
  by (inl is) rest = inl (λ t. record { inst = in_one.inst t; item = in_one.item t; bit = is t })
  by (inr later) rest = inr (rest (record { inst = in_one.inst; item = in_one.item; from = later; below = omega (arith, in_one.below) }))

-- bits of items of instance i, from item k on
pub record InSome (i k : ℕ) (ws : List ℕ) (b : Bit) : Type 0 where
  pub inst : b.inst ≡ i
  pub place : ℕ
  pub item : b.item ≡ k + place
  pub there : InList ws place b.bit

pub in_list : (i k : ℕ) (ws : List ℕ) (b : Bit) → Among b (list_bits i k ws) → InSome i k ws b
unfolding list_bits
in_list i k [] b among = absurd among
in_list i k (w ∷ ws) b among =
    elim (among_either b (item_bits i k 0 w) (list_bits i (suc k) ws) among) [
      | inl here ↦ let one = in_item i k 0 w b here in record { inst = one.inst; place = 0; item = omega (arith, one.item); there = record { width = w; is = refl; within = omega (arith, one.below) } }
      | inr later ↦ let rest = in_list i (suc k) ws b later in record { inst = rest.inst; place = suc rest.place; item = omega (arith, rest.item); there = record { width = rest.there.width; is = rest.there.is; within = rest.there.within } }
    ]

pub list_has : (i k : ℕ) (ws : List ℕ) (b : Bit) → (j : ℕ) → b.inst ≡ i → b.item ≡ k + j → InList ws j b.bit → Among b (list_bits i k ws)
unfolding list_bits
list_has i k [] b j of at there = let e : slice_get {X = ℕ} [] j ≡ Some there.width = there.is in cc
list_has i k (w ∷ ws) b zero of at there =
    let same : w ≡ there.width = (let e : Some w ≡ Some there.width = there.is in cc) in
    among_left b (item_bits i k 0 w) (list_bits i (suc k) ws)
    (item_has i k 0 w b (record { inst = of; item = omega (arith, at); from = omega arith; below = omega (arith, same, there.within) }))
list_has i k (w ∷ ws) b (suc j) of at there =
    among_right b (item_bits i k 0 w) (list_bits i (suc k) ws)
    (list_has i (suc k) ws b j of (omega (arith, at)) (record { width = there.width; is = there.is; within = there.within }))

-- bits of the instances from number i on
pub record InAny (i : ℕ) (wss : List (List ℕ)) (b : Bit) : Type 0 where
  pub place : ℕ
  pub inst : b.inst ≡ i + place
  pub there : InLists wss place b.item b.bit

pub in_any : (i : ℕ) (wss : List (List ℕ)) (b : Bit) → Among b (bits_of i wss) → InAny i wss b
unfolding bits_of
in_any i [] b among = absurd among
in_any i (ws ∷ wss) b among =
    elim (among_either b (list_bits i 0 ws) (bits_of (suc i) wss) among) [
      | inl here ↦
          let one = in_list i 0 ws b here in
          let same : one.place ≡ b.item = omega (arith, one.item) in
          record { place = 0; inst = omega (arith, one.inst); there = record { widths = ws; is = refl; in_list = subst (λ k. InList ws k b.bit) same one.there } }
      | inr later ↦
          let rest = in_any (suc i) wss b later in
          record { place = suc rest.place; inst = omega (arith, rest.inst); there = record { widths = rest.there.widths; is = rest.there.is; in_list = rest.there.in_list } }
    ]

pub any_has : (i : ℕ) (wss : List (List ℕ)) (b : Bit) (j : ℕ) → b.inst ≡ i + j → InLists wss j b.item b.bit → Among b (bits_of i wss)
unfolding bits_of
any_has i [] b j at there = let e : slice_get {X = List ℕ} [] j ≡ Some there.widths = there.is in cc
any_has i (ws ∷ wss) b zero at there =
    let same : ws ≡ there.widths = (let e : Some ws ≡ Some there.widths = there.is in cc) in
    among_left b (list_bits i 0 ws) (bits_of (suc i) wss) (list_has i 0 ws b b.item (omega (arith, at)) (omega arith) (subst (λ v. InList v b.item b.bit) (sym same) there.in_list))
any_has i (ws ∷ wss) b (suc j) at there =
    among_right b (list_bits i 0 ws) (bits_of (suc i) wss) (any_has (suc i) wss b j (omega (arith, at)) (record { widths = there.widths; is = there.is; in_list = there.in_list }))

-- just the bits of the lists
pub bits_are : (wss : List (List ℕ)) (b : Bit) → Among b (bits_of 0 wss) ↔ InLists wss b.inst b.item b.bit
bits_are wss b = (there, λ is. any_has 0 wss b b.inst (omega arith) is) where
  there : Among b (bits_of 0 wss) → InLists wss b.inst b.item b.bit
  there among =
      let one = in_any 0 wss b among in
      let same : one.place ≡ b.inst = omega (arith, one.inst) in
      subst (λ i. InLists wss i b.item b.bit) same one.there

-- ---- order

item_rises : (i k s n : ℕ) → Rises BitBefore (item_bits i k s n)
unfolding item_bits
item_rises i k s zero = tt
item_rises i k s (suc n) =
    rises_append BitBefore (record { inst = i; item = k; bit = s } ∷ []) (item_bits i k (suc s) n) (tt, tt) (item_rises i k (suc s) n)
    (λ a b in_a in_b. by a b in_a (in_item i k (suc s) n b in_b))
  where
    by : (a b : Bit) → Among a (record { inst = i; item = k; bit = s } ∷ []) → InItem i k (suc s) n b → BitBefore a b
    by a b (inl is) later =
        let inst = ap (λ (x : Bit). x.inst) is in
        let item = ap (λ (x : Bit). x.item) is in
        let bit = ap (λ (x : Bit). x.bit) is in
        inr (inst ∙ sym later.inst, inr (item ∙ sym later.item, omega (arith, bit, later.from)))
    by a b (inr none) later = absurd none

list_rises : (i k : ℕ) (ws : List ℕ) → Rises BitBefore (list_bits i k ws)
unfolding list_bits
list_rises i k [] = tt
list_rises i k (w ∷ ws) =
    rises_append BitBefore (item_bits i k 0 w) (list_bits i (suc k) ws) (item_rises i k 0 w) (list_rises i (suc k) ws)
    (λ a b in_a in_b.
    let one = in_item i k 0 w a in_a in
    let later = in_list i (suc k) ws b in_b in
    inr (one.inst ∙ sym later.inst, inl (omega (arith, one.item, later.item))))

pub bits_rise : (i : ℕ) (wss : List (List ℕ)) → Rises BitBefore (bits_of i wss)
unfolding bits_of
bits_rise i [] = tt
bits_rise i (ws ∷ wss) =
    rises_append BitBefore (list_bits i 0 ws) (bits_of (suc i) wss) (list_rises i 0 ws) (bits_rise (suc i) wss)
    (λ a b in_a in_b.
    let one = in_list i 0 ws a in_a in
    let later = in_any (suc i) wss b in_b in
    inl (omega (arith, one.inst, later.inst)))

-- no two bits stand before each other
once : (a b : Bit) → BitBefore a b → BitBefore b a → ⊥
once a b (inl x) (inl y) = absurd (omega arith)
once a b (inl x) (inr y) = absurd (omega (arith, y.0))
once a b (inr x) (inl y) = absurd (omega (arith, x.0))
once a b (inr (e, inl x)) (inr (d, inl y)) = absurd (omega arith)
once a b (inr (e, inl x)) (inr (d, inr y)) = absurd (omega (arith, y.0))
once a b (inr (e, inr x)) (inr (d, inl y)) = absurd (omega (arith, x.0))
once a b (inr (e, inr x)) (inr (d, inr y)) = absurd (omega (arith, x.1, y.1))

-- ---- the listed bits

pub listed_bits : (Is : Bit → Type 0) (wss : List (List ℕ)) → ((b : Bit) → InLists wss b.inst b.item b.bit ↔ Is b) → AreBits Is (bits_of 0 wss)
listed_bits Is wss same = record {
  members = λ b. (λ among. (same b).0 ((bits_are wss b).0 among), λ is. (bits_are wss b).1 ((same b).1 is));
  in_order = by_place BitBefore (bits_of 0 wss) (bits_rise 0 wss);
}

-- there is one list of bits
pub one_list : (Is : Bit → Type 0) (xs ys : List Bit) → AreBits Is xs → AreBits Is ys → xs ≡ ys
one_list Is xs ys x y =
    one_by_place BitBefore once xs ys x.in_order y.in_order (λ b among. (y.members b).1 ((x.members b).0 among)) (λ b among. (x.members b).1 ((y.members b).0 among))
