-- Laws of the whole sheet's reading: its ways, what is known of a sheet that is read, and which rows refuse one.
use Rattle.std.specs.Prelude.{◌≡◌, true, false, Result, Ok, Err, List, ℕ, suc, ◌+◌, ◌*◌, ◌≤◌, ◌<◌, length}
use Rattle.std.proofs.Math.Path.{refl}
use Rattle.std.proofs.Common.{sym, ap, ◌∙◌, arith}
use Rattle.std.proofs.Math.Logic.{⊎_elim}
use borrow.Author.Tests.{le-leb, lt-leb, eq-eqb, ne_eqb}
use Rattle.number.specs.Bytes.{byte_at}
use Rattle.number.specs.Order.{cases, lt_or_le, eq_or_ne}
use Rattle.project.specs.Fields.{header_kind, header_size, activity_size, link_size, header_ok}
use Rattle.judges.specs.declared.SheetError.{SheetError}
use Rattle.judges.specs.declared.SheetError.TheVariants.{Malformed, OutOfRange, BeyondLimit}
use Rattle.judges.specs.Judging.{sheet_number}
use Rattle.sheet.specs.declared.Contents.{Contents}
use Rattle.sheet.specs.declared.CalendarsEnd.{CalendarsEnd}
use Rattle.sheet.specs.declared.runs.RecordKind.TheVariants.{Activity, Link}
use Rattle.sheet.specs.Reading.{run_of, calendars_from, after_links, after_activities, after_calendars, read_sheet}
use Rattle.sheet.specs.Known.{HeaderRead, SheetRead}
use Rattle.sheet.specs.RunLaws.{never_ok, run_counted}
use Rattle.sheet.specs.JudgeLaws.{activity_stands, link_stands_lem}
use Rattle.sheet.specs.CalendarLaws.{Rest, calendars_known}

-- ---- the ways of the header
module _ (s : List ℕ) where
  pub read_other : (byte_at s 0 ≡ header_kind → ⊥) → read_sheet s ≡ Err Malformed
  unfolding read_sheet
  read_other h = rw (ne_eqb (byte_at s 0) header_kind h, read_sheet)

  pub read_cut : length s < header_size → read_sheet s ≡ Err Malformed
  unfolding read_sheet
  read_cut l = ⊎_elim (λ h. rw (eq-eqb (byte_at s 0) header_kind h, lt-leb header_size (length s) l, read_sheet)) read_other (eq_or_ne (byte_at s 0) header_kind)

  pub read_range : byte_at s 0 ≡ header_kind → header_size ≤ length s → header_ok s 0 ≡ false → read_sheet s ≡ Err OutOfRange
  unfolding read_sheet
  read_range h l o = rw (eq-eqb (byte_at s 0) header_kind h, le-leb header_size (length s) l, o, read_sheet)

  pub read_on : byte_at s 0 ≡ header_kind → header_size ≤ length s → header_ok s 0 ≡ true → read_sheet s ≡ after_calendars s (calendars_from s (suc (length s)) 0 header_size)
  unfolding read_sheet
  read_on h l o = rw (eq-eqb (byte_at s 0) header_kind h, le-leb header_size (length s) l, o, read_sheet)

-- ---- the ways of its end
module _ (s : List ℕ) (k at a l : ℕ) where
  pub links_all : at + activity_size * a + link_size * l ≡ length s → (k ≡ 0 → ⊥) → after_links s k at a (Ok l) ≡ Ok (record { calendars = k; at = at; activities = a; links = l })
  links_all h n = rw (eq-eqb (at + activity_size * a + link_size * l) (length s) h, ne_eqb k 0 n, after_links)

  pub links_none : k ≡ 0 → after_links s k at a (Ok l) ≡ Err Malformed
  links_none n =
      ⊎_elim (λ h. rw (eq-eqb (at + activity_size * a + link_size * l) (length s) h, eq-eqb k 0 n, after_links)) (λ h. rw (ne_eqb (at + activity_size * a + link_size * l) (length s) h, after_links))
      (eq_or_ne (at + activity_size * a + link_size * l) (length s))

  pub links_left : (at + activity_size * a + link_size * l ≡ length s → ⊥) → after_links s k at a (Ok l) ≡ Err Malformed
  links_left h = rw (ne_eqb (at + activity_size * a + link_size * l) (length s) h, after_links)

-- ---- the ways of the records, in turn
module _ (s : List ℕ) (h : byte_at s 0 ≡ header_kind) (l : header_size ≤ length s) (o : header_ok s 0 ≡ true) where
  pub calendars_fail : (x : SheetError) → calendars_from s (suc (length s)) 0 header_size ≡ Err x → read_sheet s ≡ Err x
  calendars_fail x e = read_on s h l o ∙ ap (after_calendars s) e

  module _ (c : CalendarsEnd) (ended : calendars_from s (suc (length s)) 0 header_size ≡ Ok c) where
    on_calendars : read_sheet s ≡ after_activities s c.count c.at (run_of s Activity c.at)
    on_calendars = read_on s h l o ∙ ap (after_calendars s) ended

    pub activities_fail : (x : SheetError) → run_of s Activity c.at ≡ Err x → read_sheet s ≡ Err x
    activities_fail x e = on_calendars ∙ ap (after_activities s c.count c.at) e

    module _ (a : ℕ) (activities : run_of s Activity c.at ≡ Ok a) where
      on_activities : read_sheet s ≡ after_links s c.count c.at a (run_of s Link (c.at + activity_size * a))
      on_activities = on_calendars ∙ ap (after_activities s c.count c.at) activities

      pub links_fail : (x : SheetError) → run_of s Link (c.at + activity_size * a) ≡ Err x → read_sheet s ≡ Err x
      links_fail x e = on_activities ∙ ap (after_links s c.count c.at a) e

      module _ (n : ℕ) (links : run_of s Link (c.at + activity_size * a) ≡ Ok n) where
        on_links : read_sheet s ≡ after_links s c.count c.at a (Ok n)
        on_links = on_activities ∙ ap (after_links s c.count c.at a) links

        pub read_none : c.count ≡ 0 → read_sheet s ≡ Err Malformed
        read_none z = on_links ∙ links_none s c.count c.at a n z

        pub read_left : (c.at + activity_size * a + link_size * n ≡ length s → ⊥) → read_sheet s ≡ Err Malformed
        read_left z = on_links ∙ links_left s c.count c.at a n z

        pub read_all : c.at + activity_size * a + link_size * n ≡ length s → (c.count ≡ 0 → ⊥) → read_sheet s ≡ Ok (record { calendars = c.count; at = c.at; activities = a; links = n })
        read_all z k = on_links ∙ links_all s c.count c.at a n z k

-- ---- what is known of a sheet that is read
module _ (s : List ℕ) where
  -- no count passes a limit that each index keeps
  limited : (n m : ℕ) → ((i : ℕ) → i < n → i < m) → n ≤ m
  limited n m h = ⊎_elim (λ l. absurd (omega (arith, h m l))) (λ l. l) (lt_or_le m n)

  known : (k at a l : ℕ) → HeaderRead s → Rest s 0 k at → run_of s Activity at ≡ Ok a → run_of s Link (at + activity_size * a) ≡ Ok l
      → at + activity_size * a + link_size * l ≡ length s → (k ≡ 0 → ⊥) → SheetRead s (record { calendars = k; at = at; activities = a; links = l })
  known k at a l header rest x y whole some =
      let p = run_counted s Activity at a rest.3 x in
      let q = run_counted s Link (at + activity_size * a) l p.within y in
      record {
        header = header;
        calendars_some = omega (arith, some);
        calendars_few = rest.1;
        calendar = λ j. rest.4 j (omega arith);
        activities_at = sym rest.2;
        activities_few = limited a 4096 (λ i h. (activity_stands s at i (p.stands i h)).0);
        activity = λ i h. record { kind = p.kinds i h; within = omega (arith, p.within); fields = (activity_stands s at i (p.stands i h)).1 };
        links_few = limited l 16384 (λ i h. (link_stands_lem s (at + activity_size * a) i (q.stands i h)).0);
        link = λ i h. record { kind = q.kinds i h; within = omega (arith, q.within); fields = (link_stands_lem s (at + activity_size * a) i (q.stands i h)).1 };
        whole = sym whole;
      }

  -- the three answers in turn
  module _ (c : Contents) (header : HeaderRead s) where
    from_links : (k at a : ℕ) (r : Result ℕ SheetError) → Rest s 0 k at → run_of s Activity at ≡ Ok a → run_of s Link (at + activity_size * a) ≡ r → after_links s k at a r ≡ Ok c → SheetRead s c
    from_links k at a (Err x) rest p q e = absurd (never_ok e)
    from_links k at a (Ok l) rest p q e =
        ⊎_elim
        (λ h.
        ⊎_elim (λ n. absurd (never_ok (sym (links_none s k at a l n) ∙ e)))
        (λ n.
        let y : Ok (record { calendars = k; at = at; activities = a; links = l }) ≡ Ok c = sym (links_all s k at a l h n) ∙ e in
        let z : record { calendars = k; at = at; activities = a; links = l } ≡ c = cc in
        rw z at (known k at a l header rest p q h n))
        (eq_or_ne k 0))
        (λ h. absurd (never_ok (sym (links_left s k at a l h) ∙ e))) (eq_or_ne (at + activity_size * a + link_size * l) (length s))

    from_activities : (k at : ℕ) (r : Result ℕ SheetError) → Rest s 0 k at → run_of s Activity at ≡ r → after_activities s k at r ≡ Ok c → SheetRead s c
    from_activities k at (Err x) rest p e = absurd (never_ok e)
    from_activities k at (Ok a) rest p e = from_links k at a (run_of s Link (at + activity_size * a)) rest p refl e

    from_calendars : (r : Result CalendarsEnd SheetError) → calendars_from s (suc (length s)) 0 header_size ≡ r → after_calendars s r ≡ Ok c → SheetRead s c
    from_calendars (Err x) p e = absurd (never_ok e)
    from_calendars (Ok d) p e = from_activities d.count d.at (run_of s Activity d.at) (calendars_known s (suc (length s)) d header.within p) refl e

  pub read_known : (c : Contents) → read_sheet s ≡ Ok c → SheetRead s c
  read_known c e =
      ⊎_elim
      (λ h.
      ⊎_elim (λ l. absurd (never_ok (sym (read_cut s l) ∙ e)))
      (λ l.
      ⊎_elim
      (λ o.
      from_calendars c (record { kind = h; within = l; fields = o }) (calendars_from s (suc (length s)) 0 header_size) refl (sym (read_on s h l o) ∙ e))
      (λ o. absurd (never_ok (sym (read_range s h l o) ∙ e))) (cases (header_ok s 0)))
      (lt_or_le (length s) header_size))
      (λ h. absurd (never_ok (sym (read_other s h) ∙ e))) (eq_or_ne (byte_at s 0) header_kind)

-- ---- refusals: rows 2, 3 and 4
pub record Row (r : ℕ) : Type 0 where
  pub least : 2 ≤ r
  pub most : r ≤ 4

pub row_of : (x : SheetError) → Row (sheet_number x)
row_of Malformed = record { least = omega arith; most = omega arith }
row_of OutOfRange = record { least = omega arith; most = omega arith }
row_of BeyondLimit = record { least = omega arith; most = omega arith }

pub read_row : (s : List ℕ) (x : SheetError) → read_sheet s ≡ Err x → Row (sheet_number x)
read_row s x e = row_of x
