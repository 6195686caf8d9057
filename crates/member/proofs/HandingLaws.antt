-- Octets handed over one after the other.
use Rattle.std.proofs.Common.{◌≡◌, ℕ, ◌+◌, ◌%◌, ◌^◌, true, false, List, [], ◌++◌, length, sym, refl, ap, ◌∙◌, append_assoc, append-nil, arith, length-append}
use Rattle.lists.proofs.Cases.{bool_cases, never}
use Rattle.member.specs.inner.Handing.{HandedOver}
use Rattle.member.specs.declared.output.Handed.{Handed}

pub over_none : {h : Handed} → HandedOver h [] h
over_none =
    record { over = []; rest = []; parts = refl; count = omega arith; all = λ f. refl; none = λ t. refl; stays = λ t. t }

-- a write has failed: all is held back
pub over-held : {h : Handed} {s : List ℕ} → h.failed ≡ true → HandedOver h s h
over-held {h} {s} t =
    record {
      over = [];
      rest = s;
      parts = refl;
      count = omega arith;
      all = λ f. never h.failed t f;
      none = λ u. refl;
      stays = λ u. u;
    }

-- none has: all is handed over
pub over-all : {h e : Handed} {s : List ℕ} → h.failed ≡ false → e.count % 2 ^ 64 ≡ (h.count + length s) % 2 ^ 64 → HandedOver h s e
over-all {h} {s = s} f n =
    record {
      over = s;
      rest = [];
      parts = sym (append-nil s);
      count = n;
      all = λ g. refl;
      none = λ t. never h.failed t f;
      stays = λ t. never h.failed t f;
    }

module _ {h m e : Handed} {s t : List ℕ} (p : HandedOver h s m) (q : HandedOver m t e) where
  -- the first write failed
  more-held : m.failed ≡ true → HandedOver h (s ++ t) e
  more-held f =
      let n = ap length (q.none f) in
      record {
        over = p.over;
        rest = p.rest ++ t;
        parts = ap (λ (x : List ℕ). x ++ t) p.parts ∙ append_assoc p.over p.rest t;
        count = omega (arith, p.count, q.count, n);
        all = λ g. never e.failed (q.stays f) g;
        none = p.none;
        stays = λ u. q.stays f;
      }

  more-over : m.failed ≡ false → HandedOver h (s ++ t) e
  more-over f =
      let n = length-append p.over q.over in
      let s-over : s ≡ p.over = p.parts ∙ ap (λ (x : List ℕ). p.over ++ x) (p.all f) ∙ append-nil p.over in
      record {
        over = p.over ++ q.over;
        rest = q.rest;
        parts =
            ap (λ (x : List ℕ). x ++ t) s-over ∙ ap (λ (x : List ℕ). p.over ++ x) q.parts
            ∙ sym (append_assoc p.over q.over q.rest);
        count = omega (arith, p.count, q.count, n);
        all = q.all;
        none = λ u. never m.failed (p.stays u) f;
        stays = λ u. never m.failed (p.stays u) f;
      }

  pub over-more : HandedOver h (s ++ t) e
  over-more = bool_cases m.failed more-held more-over
