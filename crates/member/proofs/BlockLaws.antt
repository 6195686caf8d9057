-- A block that the program goes through, part after part, and the output handed over on the way.
use Rattle.std.proofs.Common.{◌≡◌, ℕ, ◌-◌, ◌<◌, ◌≤◌, ◌⊎◌, List, [], ◌++◌, length, take, drop, sym, refl, ap, ◌∙◌, subst, inl, inr, append_assoc, append-nil, arith, take_all}
use Rattle.octets.specs.Walk.{part}
use Rattle.text_lines.specs.inner.Reading.{DefaultKey, awaited, given, TextState, Reads, LineKept}
use Rattle.text_lines.specs.inner.Room.{reply_room}
use Rattle.text_lines.specs.declared.LineKey.{LineKey}
use Rattle.text_lines.proofs.ReadingLaws.{reads-append}
use Rattle.text_lines.proofs.ProgramLaws.{part_join}
use Rattle.gikev2.specs.declared.Member.{Member}
use Rattle.member.specs.Program.{LineAnswers}
use Rattle.member.specs.inner.Reply.{key_in}
use Rattle.member.specs.inner.Standing.{BuffersReady, ReplyFits, KeyStands, Stands, Goes, Passes}
use Rattle.member.specs.inner.Printed.{Emptied, Flushed, Gone, Consumed}
use Rattle.member.specs.inner.Handing.{HandedOver}
use Rattle.member.specs.declared.running.Running.{Running}
use Rattle.member.specs.declared.running.LinePassed.{LinePassed}
use Rattle.member.specs.declared.output.Handed.{Handed}
use Rattle.member.specs.declared.Progress.{Progress}
use Rattle.member.proofs.HandingLaws.{over_none, over-more}

-- parts of a block, one behind the other
part_none : (s : List ℕ) (a : ℕ) → part s a a ≡ []
part_none s a = let e : a - a ≡ 0 = omega arith in ap (λ (n : ℕ). take n (drop a s)) e

goes_none : (block : List ℕ) (at : ℕ) (printed : List ℕ) (x : TextState Member) {line out : List ℕ} {r : Running}
    → Stands printed x line out r → Goes printed x (part block at at) line out r
goes_none block at printed x s =
    record { then = x; reads = subst (λ (l : List ℕ). Reads LineAnswers x l x) (sym (part_none block at)) refl; stands = s }

pub passes_none : (block : List ℕ) (from : ℕ) {line room out : List ℕ} (r : Running) → BuffersReady line room out r → from ≤ length block
    → Passes block from line out r line room out (record { running = r; next = from })
passes_none block from r ready h =
    record { ready = ready; next = omega arith; inside = h; goes = λ printed x s. goes_none block from printed x s }

-- read from x up to a place, and from there on
goes-join : (block : List ℕ) (a b c : ℕ) → a ≤ b → b ≤ c → {p w : List ℕ} (x : TextState Member) {line out : List ℕ} {y : Running}
    → (g : Goes p x (part block a b) line out y) {line' out' : List ℕ} {e : Running}
    → Goes w g.then (part block b c) line' out' e → Goes w x (part block a c) line' out' e
goes-join block a b c h k x g d =
    record {
      then = d.then;
      reads =
          subst (λ (s : List ℕ). Reads LineAnswers x s d.then) (part_join block a b c h k)
          (reads-append LineAnswers (part block a b) (part block b c) x g.then d.then g.reads d.reads);
      stands = d.stands;
    }

pub passes-join : {block : List ℕ} {from at : ℕ} {line out : List ℕ} {r : Running} {line₁ room₁ out₁ : List ℕ} {y : Running}
    {line₂ room₂ out₂ : List ℕ} {e : LinePassed}
    → Passes block from line out r line₁ room₁ out₁ (record { running = y; next = at })
    → Passes block at line₁ out₁ y line₂ room₂ out₂ e → Passes block from line out r line₂ room₂ out₂ e
passes-join {block} {from} {at} {e = e} p q =
    record {
      ready = q.ready;
      next = omega (arith, p.next, q.next);
      inside = q.inside;
      goes =
          λ printed x s.
          let g = p.goes printed x s in
          goes-join block from at e.next p.next q.next x g (q.goes printed g.then g.stands);
    }

-- a loop that goes through a block: it has gone on, or stands where it began, with the output's place unchanged
pub record Passing (block : List ℕ) (from : ℕ) (line₀ room₀ out₀ : List ℕ) (r : Running) (line room out : List ℕ) (x : Running) (at : ℕ)
    : Type 0 where
  pub passes : Passes block from line₀ out₀ r line room out (record { running = x; next = at })
  pub moved : (from < at) ⊎ ((at ≡ from) × (x.at ≡ r.at))
  pub line_same : length line ≡ length line₀
  pub room-same : length room ≡ length room₀
  pub out-same : length out ≡ length out₀

pub passing-start : (block : List ℕ) (from : ℕ) {line room out : List ℕ} (r : Running) → BuffersReady line room out r → from ≤ length block
    → Passing block from line room out r line room out r from
passing-start block from r ready h =
    record { passes = passes_none block from r ready h; moved = inr (refl, refl); line_same = refl; room-same = refl; out-same = refl }

module _ {block : List ℕ} {from : ℕ} {line₀ room₀ out₀ : List ℕ} {r : Running} {line room out : List ℕ} {x : Running} {at : ℕ}
    (p : Passing block from line₀ room₀ out₀ r line room out x at) where
  pub passing-more : {line' room' out' : List ℕ} {e : LinePassed} → Passes block at line out x line' room' out' e → at < e.next
      → length line' ≡ length line → length room' ≡ length room → length out' ≡ length out
      → Passing block from line₀ room₀ out₀ r line' room' out' e.running e.next
  passing-more q h k l m =
      record {
        passes = passes-join p.passes q;
        moved = inl (omega (arith, p.passes.next));
        line_same = k ∙ p.line_same;
        room-same = l ∙ p.room-same;
        out-same = m ∙ p.out-same;
      }

  -- it ends at the block's end, or for want of room
  pub passing-end : (length block ≤ at) ⊎ (length out - x.at < reply_room) → from < length block → ReplyFits out₀ r → from < at
  passing-end e h k = go p.moved e
    where
      go : (from < at) ⊎ ((at ≡ from) × (x.at ≡ r.at)) → (length block ≤ at) ⊎ (length out - x.at < reply_room) → from < at
      go (inl m) e = m
      go (inr m) (inl e) = absurd (omega arith)
      go (inr m) (inr e) = absurd (omega (arith, p.out-same))

-- the output is handed over, or stays
stands-key : (r e : Running) → e.key ≡ r.key → e.keyed ≡ r.keyed → (k : DefaultKey) → KeyStands k r → KeyStands k e
stands-key r e k b awaited p = b ∙ p
stands-key r e k b (given key) p = (b ∙ p.0, ap key_in k ∙ p.1)

-- what was handed over, and where the program stands then
record Left (r : Running) (h : Handed) (out : List ℕ) (e : Progress) : Type 0 where
  octets : List ℕ
  over : HandedOver h octets e.handed
  stands : (printed : List ℕ) (x : TextState Member) (line : List ℕ) → Stands printed x line out r
      → Stands (printed ++ octets) x line out e.running
  place : e.running.at ≤ r.at

module _ (r : Running) (h : Handed) (out : List ℕ) (e : Progress) (f : Flushed r h out e) where
  stands_by : {printed w line : List ℕ} {x : TextState Member} → Stands printed x line out r
      → x.output ≡ w ++ take e.running.at out → Stands w x line out e.running
  stands_by {line = line} {x} s o =
      record {
        key = stands-key r e.running f.key f.keyed x.key s.key;
        member = s.member ∙ sym f.member;
        kept = subst (λ (n : ℕ). LineKept line n x.line) (sym f.len) s.kept;
        output = o;
      }

  left_by : (HandedOver h [] e.handed × (e.running.at ≡ r.at)) ⊎ (HandedOver h (take r.at out) e.handed × (e.running.at ≡ 0))
      → Left r h out e
  left_by (inl p) =
      record {
        octets = [];
        over = p.0;
        stands =
            λ printed x line s.
            stands_by s (s.output ∙ ap (λ (n : ℕ). printed ++ take n out) (sym p.1)
            ∙ ap (λ (w : List ℕ). w ++ take e.running.at out) (sym (append-nil printed)));
        place = omega (arith, p.1);
      }
  left_by (inr p) =
      record {
        octets = take r.at out;
        over = p.0;
        stands =
            λ printed x line s.
            let w = printed ++ take r.at out in
            stands_by s (s.output ∙ sym (append-nil w) ∙ ap (λ (n : ℕ). w ++ take n out) (sym p.1));
        place = omega (arith, p.1);
      }

  left : Left r h out e
  left = left_by f.over

  ready-flushed : {line room : List ℕ} → BuffersReady line room out r → BuffersReady line room out e.running
  ready-flushed p =
      let k = ap (λ (x : LineKey). x.len) f.key in
      record {
        key = omega (arith, p.key);
        line-long = p.line-long;
        begun = omega (arith, p.begun, f.len);
        room-long = p.room-long;
        place = omega (arith, p.place, left.place);
      }

pub emptied-flushed : {r : Running} {h : Handed} {out : List ℕ} {e : Progress} → Emptied r h out e → reply_room ≤ length out →
    Flushed r h out e
emptied-flushed p n =
    record {
      member = p.member;
      key = p.key;
      keyed = p.keyed;
      len = p.len;
      over = inr (p.over, p.at);
      room = omega (arith, p.at);
    }

-- a part of a block more
gone-more : {block : List ℕ} {at : ℕ} {line₀ out₀ : List ℕ} {p : Progress} {line out : List ℕ} {x : Progress} {line' room' out' : List ℕ}
    {q : LinePassed} → Gone p (part block 0 at) line₀ out₀ line out x → Passes block at line out x.running line' room' out' q
    → Gone p (part block 0 q.next) line₀ out₀ line' out' (record { running = q.running; handed = x.handed })
gone-more {block} {at} {q = q} g t =
    record {
      octets = g.octets;
      over = g.over;
      goes =
          λ printed y s.
          let w = g.goes printed y s in
          goes-join block 0 at q.next (omega arith) t.next y w (t.goes (printed ++ g.octets) w.then w.stands);
    }

-- the output is handed over, or stays
gone-flushed : {b line₀ out₀ : List ℕ} {p : Progress} {line out : List ℕ} {m e : Progress} → Gone p b line₀ out₀ line out m
    → Flushed m.running m.handed out e → Gone p b line₀ out₀ line out e
gone-flushed {line = line} {out} {m} {e} g f =
    let l = left m.running m.handed out e f in
    record {
      octets = g.octets ++ l.octets;
      over = over-more g.over l.over;
      goes =
          λ printed y s.
          let w = g.goes printed y s in
          record {
            then = w.then;
            reads = w.reads;
            stands =
                subst (λ (z : List ℕ). Stands z w.then line out e.running) (append_assoc printed g.octets l.octets)
                (l.stands (printed ++ g.octets) w.then line w.stands);
          };
    }

-- a loop that goes through a block and hands the output over on the way
pub record Consuming (block line₀ room₀ out₀ : List ℕ) (p : Progress) (line room out : List ℕ) (x : Progress) (at : ℕ) : Type 0 where
  pub ready : BuffersReady line room out x.running
  pub space : ReplyFits out x.running
  pub inside : at ≤ length block
  pub went : Gone p (part block 0 at) line₀ out₀ line out x
  pub line_same : length line ≡ length line₀
  pub room-same : length room ≡ length room₀
  pub out-same : length out ≡ length out₀

pub consuming-start : (block : List ℕ) {line room out : List ℕ} {p : Progress} → BuffersReady line room out p.running →
    ReplyFits out p.running
    → Consuming block line room out p line room out p 0
consuming-start block {line} {out = out} {p} r q =
    record {
      ready = r;
      space = q;
      inside = omega arith;
      went =
          record {
            octets = [];
            over = over_none;
            goes =
                λ printed y s.
                subst (λ (w : List ℕ). Goes w y (part block 0 0) line out p.running) (sym (append-nil printed))
                (goes_none block 0 printed y s);
          };
      line_same = refl;
      room-same = refl;
      out-same = refl;
    }

module _ {block line₀ room₀ out₀ : List ℕ} {p : Progress} {line room out : List ℕ} {x : Progress} {at : ℕ}
    (c : Consuming block line₀ room₀ out₀ p line room out x at) where
  pub consuming-more : {line' room' out' : List ℕ} {q : LinePassed} {e : Progress} →
      Passes block at line out x.running line' room' out' q
      → Flushed q.running x.handed out' e → length line' ≡ length line → length room' ≡ length room → length out' ≡ length out
      → Consuming block line₀ room₀ out₀ p line' room' out' e q.next
  consuming-more {out' = out'} {q} {e} t f k l m =
      record {
        ready = ready-flushed q.running x.handed out' e f t.ready;
        space = f.room;
        inside = t.inside;
        went = gone-flushed (gone-more c.went t) f;
        line_same = k ∙ c.line_same;
        room-same = l ∙ c.room-same;
        out-same = m ∙ c.out-same;
      }

  -- the block's end, where all is handed over
  module _ {e : Progress} (f : Emptied x.running x.handed out e) where
    last : Flushed x.running x.handed out e
    last = emptied-flushed f (omega (arith, c.space))

    pub consuming-ready : BuffersReady line room out e.running
    consuming-ready = ready-flushed x.running x.handed out e last c.ready

    pub consuming-room : ReplyFits out e.running
    consuming-room = last.room

    pub consuming-end : length block ≤ at → Consumed p block line₀ out₀ line out e
    consuming-end h =
        let b : part block 0 at ≡ block = take_all (at - 0) block (omega arith) in
        record { gone = gone-flushed (subst (λ (w : List ℕ). Gone p w line₀ out₀ line out x) b c.went) last; at = f.at }
