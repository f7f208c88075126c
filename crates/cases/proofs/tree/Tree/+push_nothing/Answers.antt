use Rattle.std.proofs.Common.{◌≡◌, ℕ, ◌+◌, List, ◌∷◌, [], ◌++◌, replicate, None, ap, sym, ◌∙◌, append_assoc, rules}
use Rattle.std.proofs.lemmas.Result.{on_ok_weaker}
use Rattle.std.proofs.lemmas.List.{replicate-append-replicate}
use Rattle.cases.specs.Sizes.{size}
use Rattle.cases.proofs.tree.Tree.+push_nothing.Goals as goal

-- one more, and those of two parts
of_two : {A : Type 0} (xs ys zs : List A) (k m n : ℕ) (a : A) → k ≡ 1 + m + n → ys ≡ (xs ++ (a ∷ [])) ++ replicate m a → zs ≡ ys ++ replicate n a → zs ≡ xs ++ replicate k a
of_two xs ys zs k m n a d e f =
    f ∙ ap (λ z. z ++ replicate n a) (e ∙ append_assoc xs (a ∷ []) (replicate m a) ∙ ap (λ z. xs ++ z) (replicate-append-replicate 1 m a))
    ∙ append_assoc xs (replicate (1 + m) a) (replicate n a) ∙ ap (λ z. xs ++ z) (replicate-append-replicate (1 + m) n a ∙ ap (λ z. replicate z a) (sym d))

pub returns-in_ok-push_nothing-in-Choice : goal.returns-in_ok-push_nothing-in-Choice
returns-in_ok-push_nothing-in-Choice t c =
    let m = size c.deref-in-Choice.result.now in
    let first = c.in_ok-push_nothing-in-Choice.ensures ∙ ap (λ z. z ++ replicate m None) c.in_ok-push.ensures.items in
    on_ok_weaker _ (of_two _ _ _ (size c.args.self.now) m (size c.deref-in-Choice-2.result.now) None (search rules) first) c.push_nothing-in-Choice-2.ensures
