-- Layers that add nothing more are the least set from which room can be reached.
use Rattle.std.proofs.Common.{◌≡◌, ℕ, zero, suc, ◌+◌, ◌<◌, ◌≤◌, Bool, true, inl, inr, add-one, arith}
use Rattle.std.proofs.lemmas.Bool.{cases_Bool}
use Rattle.flow.specs.Flow.{column, Roomy, Closed, Reaches}
use Rattle.flow.specs.Layer.{Layers}

module _
    {m n : ℕ} {may on : ℕ → ℕ → Bool} {spare : ℕ → ℕ} {layer : ℕ → ℕ → Bool} {k : ℕ}
    (w : Layers m n may on spare layer k) (f : ℕ → ℕ → ℕ) (c : ℕ → ℕ)
    (flows : (j s : ℕ) → j < m → s < n → on j s ≡ true → 0 < f j s) (sums : (s : ℕ) → s < n → spare s + column m f s ≡ c s) where
  -- every set that is roomy and closed has all layers
  pub layers_least :
      (v : ℕ → Bool) → Roomy m n c f v → Closed m n may f v →
      (d : ℕ) → d ≤ k → (s : ℕ) → s < n → layer d s ≡ true → v s ≡ true
  layers_least v r q zero l s ls h = r.room s ls (omega (arith, w.first s ls h, sums s ls))
  layers_least v r q (suc d) l s ls h =
      elim (cases_Bool (layer d s)) [
        | inl t ↦ layers_least v r q d (omega arith) s ls t
        | inr e ↦
            (let p = w.from d (omega arith) s ls (rw add-one h) e in
            q.back p.task s p.hour p.task_in ls p.hour_in p.allowed
            (layers_least v r q d (omega arith) p.hour p.hour_in p.nearer) (flows p.task s p.task_in ls p.flows))
      ]

  -- every layer has the hours with room
  pub layers_roomy : (d : ℕ) → d ≤ k → (s : ℕ) → s < n → column m f s < c s → layer d s ≡ true
  layers_roomy zero l s ls h = w.room s ls (omega (arith, sums s ls))
  layers_roomy (suc d) l s ls h = rw add-one at (w.up d (omega arith) s ls (layers_roomy d (omega arith) s ls h))

  -- a last layer that is closed is the set of hours that can reach room
  pub layers_reach : Closed m n may f (layer k) → Reaches m n may c f (layer k)
  layers_reach q =
      record {
        roomy = record { room = layers_roomy k (omega arith) };
        closed = q;
        least = λ v r x s ls h. layers_least v r x k (omega arith) s ls h;
      }
