-- The choice of a split, from split to split.
use Rattle.std.proofs.Common.{◌≡◌, ℕ, ◌+◌, ◌-◌, ◌<◌, ◌≤◌, ◌⊎◌, List, Option, Some, None, sym, refl, subst, inl, inr, arith}
use Rattle.rules.specs.Languages.{Sight}
use Rattle.rules.specs.Readings.{Reading}
use Rattle.policies.specs.Orders.{Order, Decided, Replaced}
use Rattle.matcher.specs.declared.frame.Frame.{Frame}
use Rattle.matcher.specs.declared.frame.Spot.{Spot}
use Rattle.matcher.specs.declared.ranking.Leader.{Leader}
use Rattle.matcher.specs.declared.ranking.Leader.TheVariants.{Alone}
use Rattle.matcher.specs.Frames.{frame_rows, frame_kind, second_node, On}
use Rattle.matcher.specs.Leaders.{leader_code, best_code, LeaderShown, BestShown}
use Rattle.matcher.specs.Searches.{BestBelowAt, KeepsAt, ReadyAt, CodedAt}
use Rattle.matcher.specs.States.{Reach, BothCoded}
use Rattle.matcher.proofs.SplitCodes.{below_none, below_skip, below_kept, below_done}

module _ (above : Order) (decided : Decided above) (replaced : Replaced above) (f : Frame) (w : List Sight) (s : Spot) (on : On f s) (bs : List ℕ) (ready : ReadyAt above f w bs s) where
  abbrev q : ℕ
  q = second_node f s.node

  -- at split k the best so far is b, and the pad has x
  abbrev Choosing : ℕ → Option Leader → Reading → Type 0
  Choosing k b x = BestBelowAt above f w bs s k (best_code b) × BestShown f bs s b x

  pub choosing_none : (a b : ℕ) → Reach (frame_rows f) (s.node + 1) q s.start s.end a b → (x : Reading) → Choosing a None x
  choosing_none a b r x = (below_none above decided replaced f w s on bs ready a b r, tt)

  pub choosing_skip : (k : ℕ) (b b' : Option Leader) (x : Reading) → k ≤ s.end → (BothCoded f.symbols bs (s.node + 1) q s.start k s.end → ⊥) → b' ≡ b → Choosing k b x → Choosing (k + 1) b' x
  choosing_skip k b b' x u n e c =
      let P : Option Leader → Type 0 = λ v. Choosing (k + 1) v x in
      subst P (sym e) (below_skip above decided replaced f w s on bs ready k (best_code b) u n c.0, c.1)

  pub choosing_first : (k : ℕ) (b b' : Option Leader) (x : Reading) → s.start ≤ k → k ≤ s.end → BothCoded f.symbols bs (s.node + 1) q s.start k s.end → b ≡ None → b' ≡ Some (Alone (k - s.start + 1)) → Choosing k b x → Choosing (k + 1) b' x
  choosing_first k b b' x l u coded e e' c =
      let P : Option Leader → Type 0 = λ v. Choosing (k + 1) v x in
      let Q : Option Leader → Type 0 = λ v. BestBelowAt above f w bs s k (best_code v) in
      subst P (sym e') (below_kept above decided replaced f w s on bs ready k 0 (k - s.start + 1) l u coded (subst Q e c.0) (inr refl) (λ _. refl) (λ _ _ _ _ _ z. absurd (z refl)), (omega arith, tt))

  pub choosing_next : (k : ℕ) (b b' : Option Leader) (leader v : Leader) (x x' : Reading) → s.start ≤ k → k ≤ s.end → BothCoded f.symbols bs (s.node + 1) q s.start k s.end → b ≡ Some leader → b' ≡ Some v
      → (leader_code v ≡ leader_code leader) ⊎ (leader_code v ≡ k - s.start + 1) → KeepsAt above f bs s (leader_code leader) (k - s.start + 1) (leader_code v) → LeaderShown f bs s v x' → Choosing k b x → Choosing (k + 1) b' x'
  choosing_next k b b' leader v x x' l u coded e e' either keeps shown c =
      let P : Option Leader → Type 0 = λ o. Choosing (k + 1) o x' in
      let Q : Option Leader → Type 0 = λ o. Choosing k o x in
      let d = subst Q e c in
      let some : 0 < leader_code v = elim either [ inl z ↦ omega (arith, z, d.1.0) | inr z ↦ omega (arith, z) ] in
      subst P (sym e') (below_kept above decided replaced f w s on bs ready k (leader_code leader) (leader_code v) l u coded d.0 either (λ z. absurd (omega (arith, z, d.1.0))) keeps, (some, shown))

  pub chosen : (a b k : ℕ) (o : Option Leader) (x : Reading) → Reach (frame_rows f) (s.node + 1) q s.start s.end a b → b ≤ k → frame_kind f s.node ≡ 3 → Choosing k o x → CodedAt above f w bs s (best_code o)
  chosen a b k o x r g kind c = below_done above decided replaced f w s on bs ready a b r k (best_code o) g kind c.0
