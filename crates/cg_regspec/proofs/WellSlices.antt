-- Slices of nets are sound: printable, of their width, and of nets that are known.
use Rattle.std.proofs.Common.{◌≡◌, ℕ, suc, ◌-◌, ◌^◌, ◌<◌, ◌≤◌, eqb, Bool, true, false, cond, ◌&&◌, List, refl, subst, arith}
use Rattle.std.proofs.lemmas.Bool.{eqb-true, and_parts}
use Rattle.cg_svspec.specs.Tree.{net, cut}
use Rattle.cg_svspec.proofs.WellSound.{Above, Has, Sound, sound_net, sound_cut}
use Rattle.cg_regspec.specs.RegisterModule.{slice}

-- a slice, which is a bare name where all bits are meant
pub sound_slice : {e : Above} {n : List ℕ} (d width msb lsb : ℕ) → 0 < d → Has e n width → 1 < width → width ≤ 2 ^ 16 → msb < width → lsb ≤ msb → Sound e d (slice n width msb lsb) (suc msb - lsb)
sound_slice {e} {n} d width msb lsb some h wide small low order = by (eqb lsb 0 && eqb (suc msb) width) refl where
  by : (b : Bool) → (eqb lsb 0 && eqb (suc msb) width) ≡ b → Sound e d (cond b (net n) (cut n msb lsb)) (suc msb - lsb)
  by true whole =
      let parts = and_parts (eqb lsb 0) (eqb (suc msb) width) whole in
      let zero_low : lsb ≡ 0 = eqb-true lsb 0 parts.0 in
      let all : suc msb ≡ width = eqb-true (suc msb) width parts.1 in
      let is : width ≡ suc msb - lsb = omega arith in
      subst (λ w. Sound e d (net n) w) is (sound_net d some h)
  by false whole = sound_cut d msb lsb (suc msb - lsb) some h wide small low order refl
