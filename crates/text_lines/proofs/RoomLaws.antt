-- Laws of text put into lent room.
use Prim.Native.Nat.{ℕ, suc, ◌+◌, ◌-◌, ◌<◌, ◌≤◌, min}
use mathlib.Core.Path.{◌≡◌, refl, ap, sym, subst, ◌∙◌}
use mathlib.Core.List.{List, [], ◌∷◌, ◌++◌, append_assoc, append-nil}
use native.Mathlib.Omega.{arith}
use lib.ListN.{length, take, drop, set, length-append, length-set}
use lib.Seq.{sets, length-sets, set_out, sets-eq, length-take-le, take_at}
use Rattle.lists.proofs.Cases.{lt-cases}
use Rattle.text_lines.specs.inner.Room.{Put}

pub sets-out : (text room : List ℕ) (n : ℕ) → length room ≤ n → sets room n text ≡ room
sets-out [] room n h = refl
sets-out (c ∷ text) room n h =
    ap (λ (l : List ℕ). sets l (suc n) text) (set_out room n c h) ∙ sets-out text room (suc n) (omega arith)

-- the place behind a text, whether its first octet is put or not: nothing is put at either place where the room is full
same_place : (t room x : List ℕ) (n k : ℕ) → length x ≡ length room
    → sets x (n + min (suc k) (length room - n)) t ≡ sets x (suc n + min k (length room - suc n)) t
same_place t room x n k e =
    lt-cases n (length room)
    (λ h. let q : n + min (suc k) (length room - n) ≡ suc n + min k (length room - suc n) = omega arith in rw q)
    (λ h.
    sets-out t x (n + min (suc k) (length room - n)) (omega arith)
    ∙ sym (sets-out t x (suc n + min k (length room - suc n)) (omega arith)))

sets-append : (s t room : List ℕ) (n : ℕ) → sets (sets room n s) (n + min (length s) (length room - n)) t ≡ sets room n (s ++ t)
sets-append [] t room n = let e : n + min 0 (length room - n) ≡ n = omega arith in rw e
sets-append (c ∷ s) t room n =
    let x : List ℕ = set room n c in
    same_place t room (sets x (suc n) s) n (length s) (length-sets x (suc n) s ∙ length-set room n c)
    ∙ ap (λ (k : ℕ). sets (sets x (suc n) s) (suc n + min (length s) (k - suc n)) t) (sym (length-set room n c))
    ∙ sets-append s t x (suc n)

pub length-put : {room : List ℕ} {at : ℕ} {text after : List ℕ} {next : ℕ} → Put room at text after next → length after ≡ length room
length-put {room} {at} {text} p = ap length p.octets ∙ length-sets room at text

-- one text put behind another
pub put-append : {room : List ℕ} {at : ℕ} {s middle : List ℕ} {place : ℕ} {t after : List ℕ} {next : ℕ}
    → Put room at s middle place → Put middle place t after next → Put room at (s ++ t) after next
put-append {room} {at} {s} {middle} {place} {t} {after} {next} p q =
    record {
      octets =
          q.octets ∙ ap (λ (l : List ℕ). sets l place t) p.octets
          ∙ ap (λ (k : ℕ). sets (sets room at s) k t) p.place ∙ sets-append s t room at;
      place =
          let e = length-put p in
          let l = length-append s t in
          omega (arith, p.place, q.place);
    }

pub put_as : {room : List ℕ} {at : ℕ} {s t after : List ℕ} {next : ℕ} → s ≡ t → Put room at s after next → Put room at t after next
put_as {room} {at} {s} {t} {after} {next} e p = subst (λ (l : List ℕ). Put room at l after next) e p

-- one octet, where it is given as the value of a call
pub put-octet-as : {room : List ℕ} {at : ℕ} {c d : ℕ} {after : List ℕ} {next : ℕ}
    → c ≡ d → Put room at (c ∷ []) after next → Put room at (d ∷ []) after next
put-octet-as e p = put_as (ap (λ (x : ℕ). x ∷ []) e) p

pub put-none : (room : List ℕ) (at : ℕ) → Put room at [] room at
put-none room at = record { octets = refl; place = omega arith }

pub put_full : (room : List ℕ) (at c : ℕ) → length room ≤ at → Put room at (c ∷ []) room at
put_full room at c h = record { octets = sym (set_out room at c h); place = omega arith }

-- with room for all of the text, it stands between what was before and behind it
module _ {room : List ℕ} {at : ℕ} {text after : List ℕ} {next : ℕ}
    (p : Put room at text after next) (h : at + length text ≤ length room) where
  pub put_whole : after ≡ take at room ++ (text ++ drop (at + length text) room)
  put_whole = p.octets ∙ sets-eq text room at h ∙ append_assoc (take at room) text (drop (at + length text) room)

  pub put_next : next ≡ at + length text
  put_next = omega (arith, p.place)

  pub put-taken : take next after ≡ take at room ++ text
  put-taken =
      let l = length-append (take at room) text in
      let k = length-take-le at room (omega arith) in
      ap (λ (x : List ℕ). take next x) (p.octets ∙ sets-eq text room at h)
      ∙ take_at (take at room ++ text) (drop (at + length text) room) next (omega (arith, put_next))

-- a loop that puts text: what it has put so far, and what is left of the whole text
pub record Puts (room : List ℕ) (at : ℕ) (text now : List ℕ) (place : ℕ) (rest : List ℕ) : Type 0 where
  pub done : List ℕ
  pub put : Put room at done now place
  pub all : done ++ rest ≡ text

pub puts-start : (room : List ℕ) (at : ℕ) (text : List ℕ) → Puts room at text room at text
puts-start room at text = record { done = []; put = put-none room at; all = refl }

-- a turn puts s, with which what is left begins
pub puts-more : {room : List ℕ} {at : ℕ} {text now : List ℕ} {place : ℕ} {rest : List ℕ} (s : List ℕ) {rest' now' : List ℕ} {place' : ℕ}
    → Puts room at text now place rest → rest ≡ s ++ rest' → Put now place s now' place' → Puts room at text now' place' rest'
puts-more s {rest'} p e q =
    record {
      done = p.done ++ s;
      put = put-append p.put q;
      all = append_assoc p.done s rest' ∙ ap (λ (l : List ℕ). p.done ++ l) (sym e) ∙ p.all;
    }

pub length-puts : {room : List ℕ} {at : ℕ} {text now : List ℕ} {place : ℕ} {rest : List ℕ}
    → Puts room at text now place rest → length now ≡ length room
length-puts p = length-put p.put

pub puts-done : {room : List ℕ} {at : ℕ} {text now : List ℕ} {place : ℕ} {rest : List ℕ}
    → Puts room at text now place rest → rest ≡ [] → Put room at text now place
puts-done {room} {at} {text} {now} {place} p e =
    subst (λ (l : List ℕ). Put room at l now place)
    (sym (append-nil p.done) ∙ ap (λ (l : List ℕ). p.done ++ l) (sym e) ∙ p.all) p.put

-- a room that is full takes no more
pub puts-full : {room : List ℕ} {at : ℕ} {text now : List ℕ} {place : ℕ} {rest : List ℕ}
    → Puts room at text now place rest → length room ≤ place → Put room at text now place
puts-full {room} {at} {text} {now} {place} {rest} p h =
    let e = length-puts p in
    put_as p.all
    (put-append p.put (record { octets = sym (sets-out rest now place (omega arith)); place = omega arith }))

-- one octet stored where there is room
pub put-stored : (room : List ℕ) (at c : ℕ) → at < length room → Put room at (c ∷ []) (set room at c) (at + 1)
put-stored room at c h = record { octets = refl; place = omega arith }
