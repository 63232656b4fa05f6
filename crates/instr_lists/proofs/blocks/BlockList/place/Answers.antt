use Rattle.std.proofs.Common.{◌≡◌, ◌+◌, ◌*◌, ◌∙◌, length, sym, ap, subst, arith}
use Rattle.flat_model.specs.declared.events.What.{What}
use Rattle.instr_lists.specs.Sorts.{LiesIn, IsInside, IsAccess}
use Rattle.instr_lists.specs.Lists.{Listed, IsPlaceOf}
use Rattle.instr_lists.proofs.Placing.{block_place, insn_place, mem_place, init_place, sys_place, ret_place, exit_place}
use Rattle.instr_lists.proofs.blocks.BlockList.place.Goals as goal

pub returns-in-Block : goal.returns-in-Block
returns-in-Block c =
    let block = c.args.self.now.block in
    let in' : IsInside block c.in-Block.pc = subst (LiesIn block) c.in-Block.is c.requires.lies in
    let same = c.word.ensures.word in'.word in'.place in
    record {
      place = subst (λ (w : What). IsPlaceOf block w (5 * c.word.result)) (sym c.in-Block.is)
          (block_place block c.in-Block.pc (5 * c.word.result) in' c.in-Block.n (omega (arith, same)));
    }

pub returns-in-Insn : goal.returns-in-Insn
returns-in-Insn c =
    let block = c.args.self.now.block in
    let in' : IsInside block c.in-Insn.pc = subst (LiesIn block) c.in-Insn.is c.requires.lies in
    let same = c.word-in-Insn.ensures.word in'.word in'.place in
    record {
      place = subst (λ (w : What). IsPlaceOf block w (5 * c.word-in-Insn.result + 1)) (sym c.in-Insn.is)
          (insn_place block c.in-Insn.pc (5 * c.word-in-Insn.result + 1) in' c.in-Insn.word (omega (arith, same)));
    }

pub returns-in-Mem : goal.returns-in-Mem
returns-in-Mem c =
    let block = c.args.self.now.block in
    let m = c.in-Mem in
    let at : IsAccess block m.pc m.rw = subst (LiesIn block) m.is c.requires.lies in
    let same = c.word-in-Mem.ensures.word at.inside.word at.inside.place in
    record {
      place = subst (λ (w : What). IsPlaceOf block w (5 * c.word-in-Mem.result + 1 + c.from.result)) (sym m.is)
          (mem_place block m.pc (5 * c.word-in-Mem.result + 1 + c.from.result) at.inside m.addr m.shift m.signed m.rw m.read m.written
          at.least at.most (omega (arith, same, c.from.ensures)));
    }

pub returns-in-Init : goal.returns-in-Init
returns-in-Init c =
    let block = c.args.self.now.block in
    let n = c.self.inside.n in
    let long : length block.sites ≡ n = sym (ap (λ (v : Listed). length v.block.sites) c.self.view_is) ∙ c.self.invariant.1 in
    record { place = subst (λ (w : What). IsPlaceOf block w (5 * n)) (sym c.in-Init.is) (init_place block n long) }

pub returns-in-Sys : goal.returns-in-Sys
returns-in-Sys c =
    let block = c.args.self.now.block in
    let n = c.self.inside.n in
    let long : length block.sites ≡ n = sym (ap (λ (v : Listed). length v.block.sites) c.self.view_is) ∙ c.self.invariant.1 in
    let s = c.in-Sys in
    record { place = subst (λ (w : What). IsPlaceOf block w (5 * n + 1)) (sym s.is) (sys_place block n long s.number s.a0 s.a1 s.a2) }

pub returns-in-SysRet : goal.returns-in-SysRet
returns-in-SysRet c =
    let block = c.args.self.now.block in
    let n = c.self.inside.n in
    let long : length block.sites ≡ n = sym (ap (λ (v : Listed). length v.block.sites) c.self.view_is) ∙ c.self.invariant.1 in
    let s = c.in-SysRet in
    record { place = subst (λ (w : What). IsPlaceOf block w (5 * n + 2)) (sym s.is) (ret_place block n long s.number s.result) }

pub returns-in-Exit : goal.returns-in-Exit
returns-in-Exit c =
    let block = c.args.self.now.block in
    let n = c.self.inside.n in
    let long : length block.sites ≡ n = sym (ap (λ (v : Listed). length v.block.sites) c.self.view_is) ∙ c.self.invariant.1 in
    record { place = subst (λ (w : What). IsPlaceOf block w (5 * n + 3)) (sym c.in-Exit.is) (exit_place block n long c.in-Exit.ending) }
