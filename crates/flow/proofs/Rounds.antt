-- One round of a look adds a layer.
use Rattle.std.proofs.Common.{◌≡◌, ℕ, ◌+◌, ◌<◌, ◌≤◌, true, false, not, ◌&&◌, ◌≢◌, List, length, get_or, set, sym, ap, ◌∙◌, inl, inr, arith, get_or-set_other, get_or-set_same}
use Rattle.std.proofs.lemmas.Bool.{cases_Bool, cases_eq}
use Rattle.fraction.specs.Sum.{size, any, both}
use Rattle.fraction.proofs.Sums.{any_some, size_more, part_same_test}
use Rattle.sets.specs.declared.hours.Hours.{Hours}
use Rattle.sets.specs.Hours.{has, blank}
use Rattle.sets.proofs.Members.{none_any}
use Rattle.flow.specs.declared.net.Net.{Net}
use Rattle.flow.specs.Layer.{Passes}
use Rattle.flow.specs.Lent.{permits, marked, layer, Layered, Spread, Stuck}

-- a set in its place, and the others beside it
pub layer_at : (layers : List Hours) (k : ℕ) (x : Hours) → k < length layers → (s : ℕ) → layer (set layers k x) k s ≡ has x s
layer_at layers k x l s = ap (λ h. has h s) (get_or-set_same layers k x blank l)

pub layer_other : (layers : List Hours) (k : ℕ) (x : Hours) (d : ℕ) → d ≢ k → (s : ℕ) → layer (set layers k x) d s ≡ layer layers d s
layer_other layers k x d ne s = ap (λ h. has h s) (get_or-set_other layers k d x blank ne)

module _ {m : ℕ} {may : List Hours} {net : Net} {layers : List Hours} {k : ℕ} {next : Hours}
    (w : Layered m may net layers k) (sp : Spread m may net (get_or layers k blank) next)
    (marks : (j s : ℕ) → j < m → marked net j s ≡ true → s < 96) where
  -- an hour that comes in passes to the layer before it
  added : (s : ℕ) → has next s ≡ true → layer layers k s ≡ false → Passes m 96 (permits may) (marked net) (layer layers k) s
  added s h out =
      let a = sp.adds s h out in
      let i = any_some 128 (both (has (get_or may a.0 blank)) (has (get_or layers k blank))) a.2 in
      let e = i.2 in
      let near : layer layers k i.0 ≡ true = grind arith in
      record {
        task = a.0;
        hour = i.0;
        task_in = a.1;
        hour_in = w.low k (omega arith) i.0 near;
        allowed = grind arith;
        nearer = near;
        flows = a.3;
      }

  -- an hour of the next layer lies below 96
  next_low : (s : ℕ) → has next s ≡ true → s < 96
  next_low s h =
      elim (cases_Bool (layer layers k s)) [
        | inl t ↦ w.low k (omega arith) s t
        | inr out ↦ (let a = sp.adds s h out in marks a.0 s a.1 a.3)
      ]

  module _ (rest : Hours) (diff : (s : ℕ) → has rest s ≡ (has next s && not (layer layers k s))) where
    -- a round that adds an hour makes a larger layer
    pub larger : any 128 (has rest) ≡ true → size 96 (layer layers k) < size 96 (has next)
    larger h =
        let i = any_some 128 (has rest) h in
        let d = diff i.0 in
        let e = i.2 in
        let inn : has next i.0 ≡ true = grind arith in
        size_more 96 (layer layers k) (has next) (λ s ls t. sp.keeps s t) i.0 (next_low i.0 inn) (grind arith) inn

    -- a round that adds none is the last
    pub stuck : any 128 (has rest) ≡ false → Stuck m may net (get_or layers k blank)
    stuck h =
        record {
          shut = λ j s lj t on.
              (let n = none_any rest h s in let d = diff s in let a = sp.all j s lj t on in
              elim (cases_Bool (layer layers k s)) [ inl y ↦ y | inr x ↦ absurd (grind arith) ]);
          idle = sp.idle;
        }

  module _ (l : k + 1 < length layers) where
    old : (d : ℕ) → d ≤ k → (s : ℕ) → layer (set layers (k + 1) next) d s ≡ layer layers d s
    old d ld s = layer_other layers (k + 1) next d (λ e. omega arith) s

    new : (s : ℕ) → layer (set layers (k + 1) next) (k + 1) s ≡ has next s
    new s = layer_at layers (k + 1) next l s

    passes :
        (d : ℕ) → d ≤ k → (s : ℕ) → Passes m 96 (permits may) (marked net) (layer layers d) s →
        Passes m 96 (permits may) (marked net) (layer (set layers (k + 1) next) d) s
    passes d ld s p =
        record {
          task = p.task;
          hour = p.hour;
          task_in = p.task_in;
          hour_in = p.hour_in;
          allowed = p.allowed;
          nearer = old d ld p.hour ∙ p.nearer;
          flows = p.flows;
        }

    pub next_size : size 96 (layer (set layers (k + 1) next) (k + 1)) ≡ size 96 (has next)
    next_size = part_same_test 96 (layer (set layers (k + 1) next) (k + 1)) (has next) (λ s. 1) (λ s ls. new s)

    pub layered_more : Layered m may net (set layers (k + 1) next) (k + 1)
    layered_more =
        record {
          ways =
              record {
                first = λ s ls h. w.ways.first s ls (sym (old 0 (omega arith) s) ∙ h);
                room = λ s ls h. old 0 (omega arith) s ∙ w.ways.room s ls h;
                up = λ d ld s ls h.
                    elim (cases_eq d k) [
                      | inl e ↦ rw e (new s ∙ sp.keeps s (sym (old k (omega arith) s) ∙ (rw e at h)))
                      | inr ne ↦
                          old (d + 1) (omega arith) s ∙ w.ways.up d (omega arith) s ls (sym (old d (omega arith) s) ∙ h)
                    ];
                from = λ d ld s ls h out.
                    elim (cases_eq d k) [
                      | inl e ↦
                          rw e (passes k (omega arith) s
                          (added s (sym (new s) ∙ (rw e at h)) (sym (old k (omega arith) s) ∙ (rw e at out))))
                      | inr ne ↦
                          passes d (omega arith) s
                          (w.ways.from d (omega arith) s ls (sym (old (d + 1) (omega arith) s) ∙ h) (sym (old d (omega arith) s) ∙ out))
                    ];
              };
          low = λ d ld s h.
              elim (cases_eq d (k + 1)) [
                | inl e ↦ next_low s (sym (new s) ∙ (rw e at h))
                | inr ne ↦ w.low d (omega arith) s (sym (old d (omega arith) s) ∙ h)
              ];
        }
